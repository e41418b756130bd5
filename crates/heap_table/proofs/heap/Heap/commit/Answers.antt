use Rattle.std.proofs.Common.{◌≡◌, true, refl, sym, subst, ◌∙◌, arith}
use Rattle.keybytes.specs.declared.rid.Rid.{Rid}
use Rattle.heap_log.specs.declared.record.LogRec.TheVariants.{Commit}
use Rattle.heap_table.specs.HeapState.{is_open}
use Rattle.heap_table.specs.HeapValue.{HeapValue}
use Rattle.heap_table.specs.Holders.{wrote}
use Rattle.heap_table.specs.Pages.{slots_written, pages_written, slot_of, KeepsRows}
use Rattle.heap_table.proofs.LogRows.{keeps_commit, grown}
use Rattle.heap_table.proofs.KeptChanges.{have_written, kept_commit}
use Rattle.heap_table.proofs.KeptTxns.{txns_added}
use Rattle.heap_table.proofs.OpenOnes.{open_accepted, without_fewer}
use Rattle.heap_table.proofs.Sounds.{wrote_still}
use Rattle.heap_table.proofs.heap.Heap.commit.Goals as goal

pub settle_writes-requires : goal.settle_writes-requires
settle_writes-requires c =
    let added = grown _ _ _ _ c.in_ok-reserve.ensures.records c.add.ensures.added in
    let log = c.self.inside.log.records in
    let have = have_written _ c.self.inside.pages c.args.txn c.add.new.self.records c.self.invariant.kept
    (λ (rid : Rid) (e : wrote c.add.new.self.records c.args.txn rid ≡ true). sym
    (wrote_still log c.add.new.self.records (Commit c.args.txn) c.args.txn rid added.is refl) ∙ e) in
    (slot_of log, slots_written log, pages_written log, c.self.inside.slot_limit, have)

pub invariant_of-self-2 : goal.invariant_of-self-2
invariant_of-self-2 c =
    let added = grown _ _ _ _ c.in_ok-reserve.ensures.records c.add.ensures.added in
    let opened : is_open c.self.inside.open_txns.items c.args.txn ≡ true =
    subst (λ (h : HeapValue). is_open h.state.active c.args.txn ≡ true) (sym c.self.view_is)
    (open_accepted c.args.self.now.state c.args.txn c.in_ok-check_txn.ensures) in
    record {
      kept = kept_commit _ _ c.self.inside.pages c.settle_writes.new.pages c.args.txn c.self.invariant.kept opened added c.end.ensures refl refl refl refl
          c.settle_writes.ensures.settled c.settle_writes.ensures.limit;
      room = omega (arith, c.settle_writes.ensures.spare, c.add.ensures.room, c.in_ok-reserve.ensures.exact, c.self.invariant.room);
      txns = txns_added _ _ _ _ _ _ c.self.invariant.txns added.is
          (λ txn e. without_fewer c.args.txn txn c.self.inside.open_txns.items (rw c.end.ensures at e))
          (omega (arith, c.add.ensures.txns, c.in_ok-reserve.ensures.txns));
    }

pub returns-clause-rows : goal.returns-clause-rows
returns-clause-rows c =
    let added = grown _ _ _ _ c.in_ok-reserve.ensures.records c.add.ensures.added in
    subst (λ (h : HeapValue). KeepsRows h.state.log c.add.new.self.records) c.self.view_is (keeps_commit _ _ c.args.txn added)
