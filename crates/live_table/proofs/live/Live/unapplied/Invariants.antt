use Rattle.std.proofs.Common.{◌≡◌, ◌≤◌, ◌*◌, ◌^◌}
use Rattle.live_lemmas.specs.Builds.{core_state}
use Rattle.live_lemmas.proofs.LeftOver.{left_before}
use Rattle.live_table.proofs.live.Live.unapplied.Given as goal

abbrev pub invariant-loop-index : goal.invariant-loop-index
invariant-loop-index g l = record {
  sum : l.sum ≡ left_before l.index (core_state l.self l.building);
  few : l.sum ≤ l.index * 2 ^ 60;
}
