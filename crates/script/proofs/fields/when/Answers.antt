use Rattle.std.proofs.Common.{[], Err, ap, rules, sym, ◌∙◌}
use Rattle.script.proofs.SpelledKeys.{no_equal, no_less, no_when, not_alone}
use Rattle.script.proofs.fields.when.Goals as goal
use Rattle.script.proofs.fields.when.Goals.{in_default-number_before-2-via-in-Some+in_default-number_before-2, in_default-number_before-2-via-in_default}

pub returns-in_err-spelled-clause-refused : goal.returns-in_err-spelled-clause-refused
returns-in_err-spelled-clause-refused c = λ bad.
    let error = rw bad at c.from_residual.ensures in
    let none = c.spelled.ensures.refused (c.in_err-spelled.was ∙ ap Err (sym error.1)) in
    no_equal c.args.text.now c.in-Some.given.now c.in-Some.column c.in-Some.ensures.some none

pub returns-in_err-spelled-2-clause-refused : goal.returns-in_err-spelled-2-clause-refused
returns-in_err-spelled-2-clause-refused c = λ bad.
    let error = rw bad at c.from_residual-in_err-spelled-2.ensures in
    let none = c.spelled-in-Some-number_before.ensures.refused (c.in_err-spelled-2.was ∙ ap Err (sym error.1)) in
    no_less c.args.text.now c.in-Some-number_before.bound.now c.in-Some-number_before.column c.in-Some-number_before.ensures.some none

pub returns-in_default-number_before-2-clause-refused : goal.returns-in_default-number_before-2-clause-refused
returns-in_default-number_before-2-clause-refused c = λ _.
    let found = c.number_before-3.ensures in
    no_when c.args.text.now c.in_default.ensures.none c.in_default-number_before.ensures.none (elim c.in_default-number_before-2.branch [
      | in_default-number_before-2-via-in-Some+in_default-number_before-2 w ↦
          let before = rw w.in_default-number_before-2.is at found.some in
          not_alone c.args.text.now w.in_default-number_before-2.field-0.1.now w.in_default-number_before-2.field-0.0 before (λ e. search rules)
      | in_default-number_before-2-via-in_default w ↦
          let none = rw w.in_default-number_before-2.is at found.none in
          λ number. none number []
    ])
