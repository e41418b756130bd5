use Rattle.std.proofs.Common.{ℕ, refl, ap, subst, ◌∙◌, arith, Some}
use Rattle.heap_log.specs.Standing.{record_at, rid_of, row_at, standing_before}
use Rattle.heap_log.proofs.Numbers.{newest_standing-write}
use Rattle.heap_table.specs.HeapState.{still_open}
use Rattle.heap_table.specs.HeapValue.{HeapValue}
use Rattle.heap_table.specs.Pages.{SetsRow}
use Rattle.heap_log.proofs.Growing.{grows}
use Rattle.heap_table.proofs.KeptFacts.{kept_now}
use Rattle.heap_table.proofs.Done.{kept_undone, undone_inside, undone_sets}
use Rattle.heap_table.proofs.KeptTxns.{txns_added}
use Rattle.heap_table.proofs.OpenOnes.{still_fewer}
use Rattle.heap_table.proofs.Performing.{can_restore, lawful_as, ready_inside}
use Rattle.heap_table.proofs.heap.Heap.undo.Goals as goal

pub undo_slot-requires-clause-room : goal.undo_slot-requires-clause-room
undo_slot-requires-clause-room c =
    let ready = c.args.ready in
    let s = c.args.self.now.state in
    let kept = kept_now _ _ _ c.self.view_is c.self.invariant in
    let lawful = lawful_as c.args.self.now ready (Some c.args.number) c.requires.ready c.requires.undo in
    can_restore s c.self.inside.pages ready.txn c.args.number ready.rid ready.old ready.new kept c.requires.ready.old lawful

pub add-requires-clause-earlier : goal.add-requires-clause-earlier
add-requires-clause-earlier c =
    let ready = c.args.ready in
    let is_ready = ready_inside _ _ _ c.self.view_is c.requires.ready in
    let lawful = lawful_as _ ready (Some c.args.number) is_ready c.requires.undo in
    let write = newest_standing-write c.self.inside.log.records ready.txn c.args.number lawful.1 in
    (write.low, write.high)

pub go_on_ending-requires : goal.go_on_ending-requires
go_on_ending-requires c =
    let is_ready = ready_inside _ _ _ c.self.view_is c.requires.ready in
    let added = grows _ _ _ c.add.ensures.added in
    undone_inside _ c.self.inside.pages c.undo_slot.new.pages c.args.ready c.args.number c.add.new.self.records is_ready c.self.invariant.kept c.requires.undo
    added
    c.undo_slot.ensures.pages

pub invariant_of-self : goal.invariant_of-self
invariant_of-self c =
    let txn = c.args.ready.txn in
    let is_ready = ready_inside _ _ _ c.self.view_is c.requires.ready in
    let added = grows _ _ _ c.add.ensures.added in
    let lawful = lawful_as _ c.args.ready (Some c.args.number) is_ready c.requires.undo in
    record {
      kept = kept_undone _ _ c.self.inside.pages c.undo_slot.new.pages c.go_on_ending.new.pages c.args.ready c.args.number is_ready c.self.invariant.kept
          c.requires.undo added
          (c.go_on_ending.ensures.active ∙ ap (λ (left : ℕ). still_open txn left c.self.inside.open_txns.items) c.standing-left.ensures) refl refl refl refl
          c.undo_slot.ensures.pages c.undo_slot.ensures.limit
          (λ slot slots count limit is. rw (← c.standing-left.ensures) (c.go_on_ending.ensures.settled slot slots count limit is)) c.go_on_ending.ensures.limit;
      room = omega (arith, c.go_on_ending.ensures.spare, c.undo_slot.ensures.spare, c.add.ensures.room, c.self.invariant.room);
      txns = txns_added _ _ _ _ _ _ c.self.invariant.txns added.is
          (λ other e. still_fewer txn other c.standing-left.result c.self.inside.open_txns.items lawful.0 (rw c.go_on_ending.ensures.active at e))
          (omega (arith, c.add.ensures.txns));
    }

pub returns-clause-rows : goal.returns-clause-rows
returns-clause-rows c =
    let n = c.args.number in
    let is_ready = ready_inside _ _ _ c.self.view_is c.requires.ready in
    let added = grows _ _ _ c.add.ensures.added in
    subst (λ (h : HeapValue). SetsRow h.state.log (rid_of (record_at h.state.log n)) (row_at h.state.log (standing_before h.state.log n))
    c.add.new.self.records) c.self.view_is
    (undone_sets _ c.self.inside.pages c.args.ready n c.add.new.self.records is_ready c.self.invariant.kept c.requires.undo added)
