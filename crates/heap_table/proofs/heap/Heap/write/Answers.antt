use Rattle.std.proofs.Common.{◌<◌, List, Option, refl, subst, arith, None}
use Rattle.heap_table.specs.HeapValue.{HeapValue}
use Rattle.heap_table.specs.Kept.{IsKeptWithRoom}
use Rattle.heap_table.specs.Pages.{SetsRow}
use Rattle.keybytes.specs.declared.cell.Cell.{Cell}
use Rattle.heap_log.specs.declared.record.LogRec.TheVariants.{Write}
use Rattle.heap_log.proofs.Growing.{Grows, grows}
use Rattle.heap_table.proofs.Done.{kept_performed}
use Rattle.heap_table.proofs.KeptTxns.{txns_added}
use Rattle.heap_table.proofs.LogRows.{write_sets}
use Rattle.heap_table.proofs.Performing.{can_write, lawful_as, lawful_change, ready_inside}
use Rattle.heap_table.proofs.heap.Heap.write.Goals as goal

pub write_slot-requires-clause-room : goal.write_slot-requires-clause-room
write_slot-requires-clause-room c =
    let ready = c.args.ready in
    let s = c.args.self.now.state in
    let kept = subst (λ (h : HeapValue). IsKeptWithRoom h c.self.inside.pages c.self.inside.log.txns c.self.inside.ended) c.self.view_is c.self.invariant in
    let lawful = lawful_as c.args.self.now ready None c.requires.ready c.requires.write in
    let memory : 0 < c.self.inside.pages.spare = omega (arith, c.requires.ready.memory, kept.room) in
    can_write s c.self.inside.pages ready.txn ready.rid ready.old ready.new kept.kept memory c.requires.ready.old c.requires.ready.new lawful

pub add-requires-clause-place : goal.add-requires-clause-place
add-requires-clause-place c =
    let is_ready = ready_inside _ _ _ c.self.view_is c.requires.ready in
    let lawful = lawful_change _ c.self.inside.pages c.args.ready is_ready c.self.invariant.kept in
    (is_ready.place, c.self.invariant.txns.placed c.args.ready.txn (lawful.writer c.requires.write).opened)

pub invariant_of-self : goal.invariant_of-self
invariant_of-self c =
    let ready = c.args.ready in
    let is_ready = ready_inside _ _ _ c.self.view_is c.requires.ready in
    let added = subst (λ (row : Option (List Cell)). Grows c.self.inside.log.records (Write ready.txn ready.rid row) c.add.new.self.records) c.take.ensures.value
    (grows _ _ _ c.add.ensures.added) in
    record {
      kept = kept_performed _ _ c.self.inside.pages c.write_slot.new.pages ready is_ready c.self.invariant.kept c.requires.write added refl refl refl refl refl
          c.write_slot.ensures.pages c.write_slot.ensures.limit;
      room = omega (arith, c.write_slot.ensures.spare, c.add.ensures.room, c.self.invariant.room);
      txns = txns_added _ _ _ _ _ _ c.self.invariant.txns added.is (λ txn e. e) (omega (arith, c.add.ensures.txns));
    }

pub returns-clause-rows : goal.returns-clause-rows
returns-clause-rows c =
    let ready = c.args.ready in
    let added = subst (λ (row : Option (List Cell)). Grows c.self.inside.log.records (Write ready.txn ready.rid row) c.add.new.self.records) c.take.ensures.value
    (grows _ _ _ c.add.ensures.added) in
    subst (λ (h : HeapValue). SetsRow h.state.log ready.rid ready.new c.add.new.self.records) c.self.view_is
    (write_sets _ _ ready.txn ready.rid ready.new added)
