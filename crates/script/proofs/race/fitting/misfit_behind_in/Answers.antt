use Rattle.std.proofs.Common.{refl, rules, arith}
use Rattle.std.proofs.lemmas.Grind.{common_steps}
use Rattle.script.proofs.race.fitting.misfit_behind_in.Goals as goal

pub returns-then-is_none : goal.returns-then-is_none
returns-then-is_none c =
    rw c.before_command-then-is_none.ensures
    (refl, (0, refl, first_of (search rules, grind (arith, common_steps)), refl, first_of (search rules, grind (arith, common_steps))))
