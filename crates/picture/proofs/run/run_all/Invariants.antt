use Rattle.replay.specs.Sessions.{ScriptState, state_of, RunsAll}
use Rattle.picture.proofs.run.run_all.Given as goal

abbrev pub invariant-loop-command : goal.invariant-loop-command
invariant-loop-command g l =
    (goal.iterator-loop-command g).can_next l.command-iterator × (goal.iterator-loop-command g).is_finite l.command-iterator
    × ((end : ScriptState) → RunsAll (state_of l.leased l.session) l.command-iterator.rest.items end → RunsAll (state_of l.fn.leased l.fn.session) l.fn.commands.items end)
