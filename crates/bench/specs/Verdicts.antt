-- What a build decided.
use Rattle.std.specs.Prelude.{ℕ, ◌≡◌}
use Rattle.heap_log.specs.declared.outcome.Outcome.{Outcome}
use Rattle.heap_log.specs.declared.outcome.Outcome.TheVariants.{Ready}

-- the index is ready, under some number
abbrev pub IsReady : Outcome → Type 0
IsReady verdict = (number : ℕ) × (verdict ≡ Ready number)
