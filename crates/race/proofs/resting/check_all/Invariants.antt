use Rattle.std.proofs.Common.{◌≡◌, vec_len, vec_capacity}
use Rattle.std.specs.List.{All}
use Rattle.race.specs.Resting.{SaysSame}
use Rattle.race.proofs.resting.check_all.Given as goal

abbrev pub invariant-loop-number : goal.invariant-loop-number
invariant-loop-number g l =
    All SaysSame l.lines.items × (vec_len l.lines ≡ l.number) × (vec_capacity l.lines ≡ vec_capacity l.initial.lines) ×
    (l.live.state.ready ≡ l.initial.live.state.ready)
