use Rattle.std.proofs.Common.{◌≡◌}
use Rattle.live_lemmas.specs.Builds.{core_state, StandsBeside}
use Rattle.live_lemmas.specs.CatchingUp.{IndexIsFurther, left_at}
use Rattle.live_lemmas.specs.Putting.{SendsOn}
use Rattle.live_table.proofs.live.Live.catch_up_one.Given as goal

abbrev pub invariant-loop-self : goal.invariant-loop-self
invariant-loop-self g l = record {
  further : IndexIsFurther l.index (core_state l.fn.self l.fn.building) (core_state l.self l.building);
  works : StandsBeside l.self l.building;
  sends : SendsOn l.fn.self l.self;
  pages : l.self.pages ≡ l.fn.self.pages;
}

abbrev pub decreases-loop-self : goal.decreases-loop-self
decreases-loop-self g l = left_at l.index (core_state l.self l.building)
