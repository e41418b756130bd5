use Rattle.std.proofs.Common.{◌≡◌, ◌≢◌, ℕ, ◌++◌}
use Rattle.std.specs.Vec.Iter.{into_iter_items}
use Rattle.race.specs.Sessions.{commands_of}
use Rattle.race.proofs.splitting.parted.Given as goal

abbrev pub invariant-loop-step : goal.invariant-loop-step
invariant-loop-step l =
    (goal.iterator-loop-step).can_next l.step-iterator ×
    (goal.iterator-loop-step).is_finite l.step-iterator ×
    (l.commands.items ++ commands_of l.session (into_iter_items l.step-iterator) ≡ commands_of l.session l.fn.steps.items) ×
    ((other : ℕ) → other ≢ l.session
    → commands_of other l.others.items ++ commands_of other (into_iter_items l.step-iterator) ≡ commands_of other l.fn.steps.items)
