use Rattle.std.proofs.Common.{ap, ◌∙◌}
use Rattle.script.specs.RaceDrafts.{RaceDraftValue, is_some_list}
use Rattle.script.proofs.RaceDrafted.{some_build, some_table}
use Rattle.script.proofs.RaceGathered.{not_listed}
use Rattle.script.proofs.race.draft.RaceDraftDraft.finish.Goals as goal
use Rattle.script.proofs.race.draft.RaceDraftDraft.finish.Goals.{in_default-via-in-Some+in_default, in_default-via-in_default}

pub unreachable-requires : goal.unreachable-requires
unreachable-requires c =
    let lines = c.requires.0 in
    let table = ap (λ (draft : RaceDraftValue). is_some_list draft.tables) c.self.view_is ∙ some_table c.args.self lines c.requires.1 c.requires.2 in
    let build = ap (λ (draft : RaceDraftValue). is_some_list draft.builds) c.self.view_is ∙ some_build c.args.self lines c.requires.1 c.requires.2 in
    elim c.in_default.branch [
      | in_default-via-in-Some+in_default w ↦ not_listed c.self.inside.build w.in_default.is-1 build
      | in_default-via-in_default w ↦ not_listed c.self.inside.table w.in_default.is-0 table
    ]
