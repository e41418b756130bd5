use Rattle.std.proofs.Common.{◌≡◌, ◌<◌, ℕ}
use Rattle.live_lemmas.specs.Builds.{core_state, StandsBeside}
use Rattle.live_lemmas.specs.Settling.{ring_at}
use Rattle.live_table.proofs.live.Live.is_settled.Given as goal

abbrev pub invariant-loop-index : goal.invariant-loop-index
invariant-loop-index g l = record {
  same : core_state l.self l.building ≡ core_state l.fn.self l.fn.building;
  none : (k : ℕ) → k < l.index → ring_at k (core_state l.fn.self l.fn.building) ≡ 0;
  works : StandsBeside l.self l.building;
}
