use Rattle.std.proofs.Common.{ℕ, List, Err, ap, subst, sym, ◌∙◌}
use Rattle.script.specs.Fields.{SpellsKey}
use Rattle.script.proofs.SpelledKeys.{same_front}
use Rattle.script.proofs.fields.SpecSpelled.spelled.Goals as goal

pub returns-in_err-columns-clause-refused : goal.returns-in_err-columns-clause-refused
returns-in_err-columns-clause-refused c = λ bad spec spelled.
    let error = rw bad at c.from_residual-in_err-columns.ensures in
    let none = c.key.ensures.refused (c.in_err-columns.was ∙ ap Err (sym error.1)) in
    let found = rw c.in_ok-unique.ensures.ok_part at c.front.ensures.some in
    let same = same_front spec.unique c.in_ok-unique.unique spelled.0 c.in_ok-unique.rest.now (sym spelled.1 ∙ found) in
    none spec.columns.items spec.condition (subst (λ (key : List ℕ). SpellsKey key spec.columns.items spec.condition) same spelled.2)
