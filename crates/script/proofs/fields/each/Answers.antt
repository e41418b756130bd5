use Rattle.std.proofs.Common.{Err, arith, ap, sym, ◌∙◌}
use Rattle.script.proofs.SpelledLists.{none_fit, spelled_more}
use Rattle.script.proofs.fields.each.Goals as goal

pub returns-in_err-spelled-clause-refused : goal.returns-in_err-spelled-clause-refused
returns-in_err-spelled-clause-refused g c = λ bad.
    let error = rw bad at c.from_residual-in_err-spelled.ensures in
    let none = c.spelled.ensures.refused (c.in_err-spelled.was ∙ ap Err (sym error.1)) in
    none_fit g.T.Field.part c.args.fields.now c.loop-field.field-index (omega arith) (λ is.
    let value = g.met.T.Field.is_part _ is in none value.0 value.1)

pub loop-field-preserved : goal.loop-field-preserved
loop-field-preserved g c =
    spelled_more g.T.Spelled.spells _ _ _ _ _ (omega arith) c.in_ok-push.ensures.items c.loop-field.invariant c.in_ok-spelled.ensures.ok
