use Rattle.script.proofs.Shaped.{script_is_clear}
use Rattle.script.proofs.script_draft.ScriptDraftDraft.new.Goals as goal

pub returns-clause-clear : goal.returns-clause-clear
returns-clause-clear c = script_is_clear
