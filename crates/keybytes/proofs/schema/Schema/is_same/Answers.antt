use Rattle.std.proofs.Common.{◌∙◌, sym}
use Rattle.std.proofs.lemmas.Bool.Decides.{same_from_decides}
use Rattle.std.proofs.lemmas.Slice.Eq.{slice_eq-Decides}
use Rattle.keybytes.proofs.SameKinds.{kind_decides, same_kinds_decides}
use Rattle.keybytes.proofs.schema.Schema.is_same.Goals as goal

pub returns : goal.returns
returns c =
    let own = c.kinds.ensures.kinds in
    let other = c.kinds-2.ensures.kinds in
    let decided = slice_eq-Decides kind_decides _ _ _ c.eq.ensures in
    same_from_decides _ _ (λ yes. sym own ∙ decided.0 yes ∙ other, λ same. decided.1 (own ∙ same ∙ sym other)) (same_kinds_decides c.args.self.now c.args.other.now)
