use Rattle.std.proofs.Common.{◌+◌}
use Rattle.live_lemmas.specs.Settling.{ring_at}
use Rattle.kept_table.specs.CatchingUp.{unfed_of}
use Rattle.kept_table.specs.Rounds.{Moves}
use Rattle.kept_table.proofs.catching_up.catch_up_one.Given as goal

abbrev pub invariant-loop : goal.invariant-loop
invariant-loop g l = Moves l.index l.least l.fn.counted l.counted

abbrev pub decreases-loop : goal.decreases-loop
decreases-loop g l = unfed_of l.counted l.index + ring_at l.index l.counted
