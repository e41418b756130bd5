use Rattle.std.proofs.Common.{◌≡◌, ◌≤◌, length, take}
use Rattle.run_spool.specs.Spools.{IsFullIntact}
use Rattle.std.specs.Vec.{vec_capacity}
use Rattle.build_events.specs.CoreState.{opening}
use Rattle.building.specs.Holding.{spools_in}
use Rattle.build_events.specs.Steps.{Run}
use Rattle.live_lemmas.specs.FullSpools.{WantedPage}
use Rattle.builder_core.proofs.run.run_events.Given as goal

abbrev pub invariant-loop-event : goal.invariant-loop-event
invariant-loop-event g l = record {
  run : Run (WantedPage (IsFullIntact g.S.Spool.is_full g.S.Spool.is_intact g.S.Spool.runs) g.S.Spool.runs g.S.Spool.open_run g.S.Spool.stake) (opening l.fn.live.state (spools_in g.S.Spool.runs g.S.Spool.open_run g.S.Spool.stake l.fn.spools.items)) (take l.event-index l.events) l.replies.items l.core;
  room : length l.events ≤ vec_capacity l.replies;
  count : length l.replies.items ≡ l.event-index;
}
