use Rattle.std.proofs.Common.{◌≡◌, [], None, rules, arith}
use Rattle.std.proofs.lemmas.Grind.{common_steps}
use Rattle.script.proofs.ScriptDrafted.{commanded, late, passed_over, tabled}
use Rattle.script.proofs.script_draft.ScriptDraftDraft.add.Goals as goal

pub returns-in-PassedOver-clause-ok : goal.returns-in-PassedOver-clause-ok
returns-in-PassedOver-clause-ok c = λ lines drafted is. rw c.in-PassedOver.is (passed_over c.args.self.now lines drafted)

pub returns-then-is_some-clause-refused : goal.returns-then-is_some-clause-refused
returns-then-is_some-clause-refused c = λ lines drafted.
    let bad : c.args.self.now.table ≡ None → c.args.self.now.commands ≡ [] → ⊥ = first_of (search rules, grind (arith, common_steps)) in
    rw c.in-Table.is (late c.args.self.now lines drafted c.in-Table.table bad)

pub returns-else-not-is_empty-clause-ok : goal.returns-else-not-is_empty-clause-ok
returns-else-not-is_empty-clause-ok c = λ lines drafted is.
    let no_table : c.self.inside.table ≡ None = first_of (search rules, grind (arith, common_steps)) in
    let no_commands : c.self.inside.commands.items ≡ [] = first_of (search rules, grind (arith, common_steps)) in
    let here = rw (← c.self.view_is) at drafted in
    rw c.in-Table.is (tabled _ lines here c.args.number c.in-Table.table is no_table no_commands)

pub returns-in_ok-push-in-Command-clause-ok : goal.returns-in_ok-push-in-Command-clause-ok
returns-in_ok-push-in-Command-clause-ok c = λ lines drafted is.
    let here = rw (← c.self.view_is) at drafted in
    rw (c.in-Command.is, c.in_ok-push-in-Command.ensures.items) (commanded _ lines here c.args.number c.in-Command.command is)
