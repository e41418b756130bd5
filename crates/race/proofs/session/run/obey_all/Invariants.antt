use Rattle.std.proofs.Common.{ℕ, ◌≤◌, ◌+◌, length}
use Rattle.std.specs.Vec.Iter.{into_iter_items}
use Rattle.race.specs.Commands.{SessionState, TakesAll, state_of}
use Rattle.race.proofs.session.run.obey_all.Given as goal

-- once the other commands are taken, all are
abbrev pub invariant-loop-command : goal.invariant-loop-command
invariant-loop-command g l =
    (goal.iterator-loop-command g).can_next l.command-iterator ×
    (goal.iterator-loop-command g).is_finite l.command-iterator ×
    (l.accepted + length (into_iter_items l.command-iterator) ≤ length l.fn.commands.items) ×
    ((after : ℕ) (end : SessionState)
    → TakesAll (into_iter_items l.command-iterator) l.accepted
    (state_of l.running.labels l.running.open_txns.items l.session l.running.receipts.items) after end
    → TakesAll l.fn.commands.items 0
    (state_of l.initial.running.labels l.initial.running.open_txns.items l.initial.session l.initial.running.receipts.items) after end)
