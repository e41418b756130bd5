use Rattle.std.proofs.Common.{◌<◌, ℕ}
use Rattle.live_lemmas.specs.Switching.{IsFedAt, SidesAreLooked}
use Rattle.live_table.proofs.live.Live.are_fed.Given as goal

abbrev pub invariant-loop-index : goal.invariant-loop-index
invariant-loop-index g l = record {
  looked : SidesAreLooked l.fn.self l.fn.building l.self l.building;
  fed : (k : ℕ) → k < l.index → IsFedAt k l.self l.building;
}
