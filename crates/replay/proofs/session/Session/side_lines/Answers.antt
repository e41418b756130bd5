use Rattle.std.proofs.Common.{◌≡◌, Some, refl, subst}
use Rattle.std.specs.List.{slice_get}
use Rattle.chunk_list.specs.Left.{queue_items_left}
use Rattle.build_events.specs.BuildSteps.{OnBuild}
use Rattle.build_events.specs.CoreState.{LiveState}
use Rattle.table_scan.specs.SideFiles.{AreEntriesLeft}
use Rattle.replay.proofs.KeyedPairs.{entry_keys}
use Rattle.replay.proofs.session.Session.side_lines.Goals as goal

pub entry_lines-requires : goal.entry_lines-requires
entry_lines-requires g c =
    entry_keys c.live-live.result.now.state.build c.args.index c.in_ok-spec.spec.now (queue_items_left c.in_ok-entries.entries) c.in_ok-entries.ensures.keys
    c.in_ok-spec.ensures.spec

pub returns-clause-lists : goal.returns-clause-lists
returns-clause-lists g c = (
  c.in_ok-spec.spec.now,
  queue_items_left c.in_ok-entries.entries,
  subst (λ (s : LiveState). OnBuild s.build (λ b. slice_get b.specs c.args.index ≡ Some c.in_ok-spec.spec.now)) c.live-live.ensures c.in_ok-spec.ensures.spec,
  subst (λ (s : LiveState). AreEntriesLeft s.heap.log s.build c.args.index (queue_items_left c.in_ok-entries.entries)) c.live-live.ensures c.in_ok-entries.ensures.ok,
  (c.in_ok-lines.lines, refl, c.in_ok-lines.ensures.lists),
)
