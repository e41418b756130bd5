use Rattle.script.specs.declared.part.Part.TheVariants as part
use Rattle.script.proofs.parse.only_spec.Goals as goal

pub returns-in_err-only-clause-refused : goal.returns-in_err-only-clause-refused
returns-in_err-only-clause-refused c = λ _. c.in_err-only.ensures.refused part.Spec

pub returns-clause-refused : goal.returns-clause-refused
returns-clause-refused c = λ bad fits.
    let here = rw c.in_ok-only.ensures.ok at fits in
    c.spelled.ensures.refused bad here.0.0 here.0.1
