use Rattle.std.proofs.Common.{None, Some, sym}
use Rattle.script.proofs.SpelledKeys.{none_before}
use Rattle.script.proofs.fields.number_before.Goals as goal

pub returns-in_err-digits-clause-none : goal.returns-in_err-digits-clause-none
returns-in_err-digits-clause-none c =
    rw c.from_residual.ensures
    (none_before c.args.sign c.args.text.now None c.in_err-digits.ensures.cases c.requires.ascii c.requires.no_digit tt)

pub returns-in_err-number-clause-none : goal.returns-in_err-number-clause-none
returns-in_err-number-clause-none c =
    rw c.from_residual-in_err-number.ensures
    (none_before c.args.sign c.args.text.now (Some (c.in_ok-digits.digits, c.in_ok-digits.rest)) c.in_ok-digits.ensures.cases c.requires.ascii
    c.requires.no_digit (sym c.in_err-number.ensures))
