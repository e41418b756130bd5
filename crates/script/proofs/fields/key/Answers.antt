use Rattle.std.proofs.Common.{Err, None, Some, ◌∷◌, ap, lit<, refl, sym, ◌∙◌}
use Rattle.std.proofs.lemmas.Str.Pattern.{split_parts}
use Rattle.script.proofs.SpelledKeys.{same_key}
use Rattle.script.proofs.fields.key.Goals as goal

pub returns-in_err-columns-in-Some-clause-refused : goal.returns-in_err-columns-in-Some-clause-refused
returns-in_err-columns-in-Some-clause-refused c = λ bad columns condition key.
    let error = rw bad at c.from_residual.ensures in
    let none = c.joined.ensures.refused (c.in_err-columns-in-Some.was ∙ ap Err (sym error.1)) in
    let same = same_key c.args.text.now (Some (c.in-Some.columns_text, c.in-Some.condition)) c.in-Some.ensures.cases columns condition key in
    none columns same.0

pub returns-in_err-condition-in-Some-clause-refused : goal.returns-in_err-condition-in-Some-clause-refused
returns-in_err-condition-in-Some-clause-refused c = λ bad columns condition key.
    let error = rw bad at c.from_residual-in_err-condition-in-Some.ensures in
    let none = c.when.ensures.refused (c.in_err-condition-in-Some.was ∙ ap Err (sym error.1)) in
    let same = same_key c.args.text.now (Some (c.in-Some.columns_text, c.in-Some.condition)) c.in-Some.ensures.cases columns condition key in
    none same.1.0 same.1.1

pub returns-in_err-columns-in-None-clause-refused : goal.returns-in_err-columns-in-None-clause-refused
returns-in_err-columns-in-None-clause-refused c = λ bad columns condition key.
    let error = rw bad at c.from_residual-in_err-columns-in-None.ensures in
    let none = c.joined-in-None.ensures.refused (c.in_err-columns-in-None.was ∙ ap Err (sym error.1)) in
    none columns (same_key c.args.text.now None c.in-None.ensures.cases columns condition key)

pub returns-in_ok-condition-in-Some-clause-ok : goal.returns-in_ok-condition-in-Some-clause-ok
returns-in_ok-condition-in-Some-clause-ok c =
    let cut = split_parts 63 c.args.text.now (Some (c.in-Some.columns_text, c.in-Some.condition)) c.in-Some.ensures.cases (lit< tt) in
    let rest = c.in-Some.condition.now in (
      c.in-Some.columns_text.now,
      63 ∷ rest,
      cut.0,
      c.in_ok-columns-in-Some.ensures.ok,
      (rest, refl, c.in_ok-condition-in-Some.ensures.ok),
    )
