use denote.Ref.{Bor}
use Rattle.std.proofs.Common.{ℕ, ◌≤◌, List, [], ◌∷◌, length, None, arith, refl}
use Rattle.script.specs.Fields.{texts}
use Rattle.script.specs.Shapes.{Fit}
use Rattle.script.proofs.parse.none.Goals as goal

-- a field is one too many
too_many : (fields : List (Bor (List ℕ))) → 1 ≤ length fields → Fit [] None (texts fields) → ⊥
too_many [] some fits = omega arith
too_many (f ∷ fs) some fits = fits

pub returns-in_default-clause-refused : goal.returns-in_default-clause-refused
returns-in_default-clause-refused c = (refl, too_many c.args.fields.now c.in_default.len_at_least)
