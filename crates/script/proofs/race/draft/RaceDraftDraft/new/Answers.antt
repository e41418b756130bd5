use Rattle.script.proofs.RaceShaped.{race_is_clear}
use Rattle.script.proofs.race.draft.RaceDraftDraft.new.Goals as goal

pub returns-clause-clear : goal.returns-clause-clear
returns-clause-clear c = race_is_clear
