use Rattle.std.proofs.Common.{refl, subst, arith}
use Rattle.heap_table.specs.HeapValue.{HeapValue}
use Rattle.heap_table.specs.Pages.{KeepsRows}
use Rattle.heap_table.proofs.LogRows.{keeps_switch, grown}
use Rattle.heap_table.proofs.KeptChanges.{kept_switch}
use Rattle.heap_table.proofs.KeptTxns.{txns_added}
use Rattle.heap_table.proofs.heap.Heap.note.Goals as goal

pub invariant_of-self-2 : goal.invariant_of-self-2
invariant_of-self-2 c =
    let added = grown _ _ _ _ c.in_ok-reserve.ensures.records c.add.ensures.added in
    record {
      kept = kept_switch _ _ c.self.inside.pages c.self.inside.pages c.new.result c.self.invariant.kept added refl refl refl refl refl refl refl;
      room = omega (arith, c.add.ensures.room, c.in_ok-reserve.ensures.exact, c.self.invariant.room);
      txns = txns_added _ _ _ _ _ _ c.self.invariant.txns added.is (λ txn e. e) (omega (arith, c.add.ensures.txns, c.in_ok-reserve.ensures.txns));
    }

pub returns-clause-rows : goal.returns-clause-rows
returns-clause-rows c =
    let added = grown _ _ _ _ c.in_ok-reserve.ensures.records c.add.ensures.added in
    subst (λ (h : HeapValue). KeepsRows h.state.log c.add.new.self.records) c.self.view_is (keeps_switch _ _ c.new.result added)
