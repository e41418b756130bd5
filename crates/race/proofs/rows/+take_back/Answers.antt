use Rattle.std.proofs.Common.{◌<◌, rules, arith}
use Rattle.heap_log.specs.Standing.{standing_count}
use Rattle.race.proofs.TakenBack.{fewer_left, has_ended, undo_opens_none}
use Rattle.race.proofs.rows.+take_back.Goals as goal

pub take_back-requires : goal.take_back-requires
take_back-requires t c =
    let old = c.args.heap.now.state in
    let new = c.undo_step.new.self.state in
    let fewer : standing_count new.log c.args.txn < standing_count old.log c.args.txn =
    fewer_left old new c.args.txn c.in-Ok.field-0 c.in-Ok.ensures.undone.1 (omega (arith, c.in-Ok.left-is)) in
    search rules

pub returns-then-left-gt0-clause-others : goal.returns-then-left-gt0-clause-others
returns-then-left-gt0-clause-others t c = λ txn is.
    undo_opens_none c.args.heap.now.state c.undo_step.new.self.state c.args.txn c.in-Ok.field-0 c.in-Ok.ensures.undone.1 txn (c.take_back.ensures.others txn is)

pub returns-clause-ended : goal.returns-clause-ended
returns-clause-ended t c = λ is.
    has_ended c.args.heap.now.state c.undo_step.new.self.state c.args.txn c.in-Ok.field-0 c.in-Ok.ensures.undone.1 (omega (arith, c.in-Ok.left-is))

pub returns-clause-others : goal.returns-clause-others
returns-clause-others t c =
    undo_opens_none c.args.heap.now.state c.undo_step.new.self.state c.args.txn c.in-Ok.field-0 c.in-Ok.ensures.undone.1
