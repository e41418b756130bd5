use Rattle.std.proofs.Common.{◌≤◌, ◌∙◌, List, length, Option, Some, None, true, ap}
use Rattle.heap_log.specs.declared.record.LogRec.{LogRec}
use Rattle.keybytes.specs.declared.kind.Kind.{Kind}
use Rattle.build_events.specs.BuildSteps.{OnBuild}
use Rattle.build_events.specs.CoreState.{BuildState}
use Rattle.live_lemmas.specs.Switching.{early_cause}
use Rattle.live_lemmas.proofs.Unloaded.{early_may}
use Rattle.table_scan.specs.TableBuilds.{BuildFollows}
use Rattle.live_table.proofs.live.Live.check_settled.Goals as goal

-- a build that runs has few indexes
few_in : (kinds : List Kind) (log : List LogRec) (o : Option BuildState) (P : BuildState → Type 0) → BuildFollows kinds log o → OnBuild o P → OnBuild o (λ b. length b.specs ≤ 8)
few_in kinds log None P follows runs = absurd runs
few_in kinds log (Some b) P follows runs = follows.few_indexes

pub is_settled-requires-clause-runs : goal.is_settled-requires-clause-runs
is_settled-requires-clause-runs g c =
    early_may c.take_in.new.self c.take_in.new.building c.in_ok-take_in.ensures.works (ap (early_cause true) c.take_in.ensures.state ∙ c.in_ok-take_in.ensures.first)
