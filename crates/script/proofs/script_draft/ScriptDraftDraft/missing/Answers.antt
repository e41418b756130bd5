use Rattle.script.proofs.ScriptDrafted.{a_table, no_table}
use Rattle.script.proofs.script_draft.ScriptDraftDraft.missing.Goals as goal

pub returns-then-is_none-clause-some : goal.returns-then-is_none-clause-some
returns-then-is_none-clause-some c = λ lines drafted. no_table _ lines (rw (← c.self.view_is) at drafted) c.if-is_none.ensures

pub returns-clause-none : goal.returns-clause-none
returns-clause-none c = λ lines drafted. a_table _ lines (rw (← c.self.view_is) at drafted) c.if-is_none.ensures
