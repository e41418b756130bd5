use Rattle.script.specs.declared.part.Part.TheVariants as part
use Rattle.script.proofs.parse.only_spools.Goals as goal

pub returns-in_err-only-clause-refused : goal.returns-in_err-only-clause-refused
returns-in_err-only-clause-refused c = λ _. c.in_err-only.ensures.refused part.Spools
