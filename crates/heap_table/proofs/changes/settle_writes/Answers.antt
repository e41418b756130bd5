use Rattle.std.proofs.Common.{◌≡◌, ◌∙◌, true, Some, sym, ap}
use Rattle.heap_log.specs.Standing.{record_at, last_of, is_write_at}
use Rattle.heap_log.proofs.Numbers.{write_of}
use Rattle.keybytes.proofs.SameRids.{same_rid-refl}
use Rattle.heap_log.proofs.Records.{txn_of-write}
use Rattle.heap_table.proofs.Settling.{settle_first, settle_next, settling_inside, earlier_place}
use Rattle.heap_table.proofs.changes.settle_writes.Goals as goal

pub loop-place-init : goal.loop-place-init
loop-place-init c = settle_first _ _ _ _ (sym c.last_of-place.ensures.value)

pub rec-requires-clause-low : goal.rec-requires-clause-low
rec-requires-clause-low c = (write_of c.args.log.now.records c.args.txn c.in-Some.number (c.loop-place.invariant.by c.in-Some.number c.in-Some.is)).low

pub rec-requires-clause-high : goal.rec-requires-clause-high
rec-requires-clause-high c = (write_of c.args.log.now.records c.args.txn c.in-Some.number (c.loop-place.invariant.by c.in-Some.number c.in-Some.is)).high

pub settle-requires-clause-page : goal.settle-requires-clause-page
settle-requires-clause-page c =
    let there : is_write_at c.in-Write.rid (record_at c.args.log.now.records c.in-Some.number) ≡ true =
    ap (is_write_at c.in-Write.rid) (c.rec.ensures ∙ ap Some c.in-Write.is) ∙ same_rid-refl c.in-Write.rid in
    (settling_inside c.args.log.now.records c.args.txn c.in-Some.number c.args.pages.now c.loop-place.pages c.in-Write.rid c.requires.0 c.requires.1
    c.requires.2 c.requires.3 (rw (← c.in-Some.is) c.loop-place.invariant) c.requires.4 there).0

pub settle-requires-clause-slot : goal.settle-requires-clause-slot
settle-requires-clause-slot c =
    let there : is_write_at c.in-Write.rid (record_at c.args.log.now.records c.in-Some.number) ≡ true =
    ap (is_write_at c.in-Write.rid) (c.rec.ensures ∙ ap Some c.in-Write.is) ∙ same_rid-refl c.in-Write.rid in
    (settling_inside c.args.log.now.records c.args.txn c.in-Some.number c.args.pages.now c.loop-place.pages c.in-Write.rid c.requires.0 c.requires.1
    c.requires.2 c.requires.3 (rw (← c.in-Some.is) c.loop-place.invariant) c.requires.4 there).1

pub loop-place-smaller : goal.loop-place-smaller
loop-place-smaller c =
    let by = c.loop-place.invariant.by c.in-Some.number c.in-Some.is in
    rw c.in-Some.is (earlier_place c.args.log.now.records c.args.txn c.in-Some.number c.previous_of-place.result
    (write_of c.args.log.now.records c.args.txn c.in-Some.number by)
    (sym (c.previous_of-place.ensures.value ∙ ap (λ t. last_of c.args.log.now.records t c.in-Some.number)
    (txn_of-write c.args.txn (record_at c.args.log.now.records c.in-Some.number) by))))

pub loop-place-preserved : goal.loop-place-preserved
loop-place-preserved c =
    let by = c.loop-place.invariant.by c.in-Some.number c.in-Some.is in
    let there : is_write_at c.in-Write.rid (Some c.rec.result.now) ≡ true =
    ap (λ r. is_write_at c.in-Write.rid (Some r)) c.in-Write.is ∙ same_rid-refl c.in-Write.rid in
    settle_next c.args.log.now.records c.args.txn c.in-Some.number c.rec.result.now c.args.pages.now c.loop-place.pages c.settle.new.self
    c.previous_of-place.result c.in-Write.rid c.requires.0 c.requires.1 c.requires.2 c.requires.3 (rw (← c.in-Some.is) c.loop-place.invariant) c.requires.4
    (write_of c.args.log.now.records c.args.txn c.in-Some.number by) c.rec.ensures there
    (sym (c.previous_of-place.ensures.value ∙ ap (λ t. last_of c.args.log.now.records t c.in-Some.number)
    (txn_of-write c.args.txn (record_at c.args.log.now.records c.in-Some.number) by)))
    c.settle.ensures.pages c.settle.ensures.limit c.settle.ensures.spare
