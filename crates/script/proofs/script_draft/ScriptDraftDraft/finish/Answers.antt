use Rattle.std.proofs.Common.{◌≡◌, false, is_some, refl}
use Rattle.script.proofs.ScriptDrafted.{no_table}
use Rattle.script.proofs.script_draft.ScriptDraftDraft.finish.Goals as goal

pub unreachable-requires : goal.unreachable-requires
unreachable-requires c =
    let none : is_some c.args.self.table ≡ false = rw (← c.self.view_is, c.in-None.is) refl in
    (no_table c.args.self c.requires.0 c.requires.1 none).0 c.requires.2
