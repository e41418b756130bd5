use Rattle.std.proofs.Common.{◌≡◌, ◌<◌, ℕ}
use Rattle.live_lemmas.specs.Builds.{core_state, StandsBeside}
use Rattle.live_lemmas.specs.CatchingUp.{left_at}
use Rattle.live_lemmas.specs.Putting.{SendsOn}
use Rattle.live_lemmas.proofs.CatchingUp.{AllAreFurther}
use Rattle.live_table.proofs.live.Live.catch_up.Given as goal

abbrev pub invariant-loop-index : goal.invariant-loop-index
invariant-loop-index g l = record {
  further : AllAreFurther (core_state l.fn.self l.fn.building) (core_state l.self l.building);
  none : (k : ℕ) → k < l.index → left_at k (core_state l.self l.building) ≡ 0;
  works : StandsBeside l.self l.building;
  sends : SendsOn l.fn.self l.self;
  pages : l.self.pages ≡ l.fn.self.pages;
}
