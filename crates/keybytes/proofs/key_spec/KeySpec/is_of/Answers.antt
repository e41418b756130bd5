use Rattle.std.proofs.Common.{◌∙◌, sym, ap}
use Rattle.std.proofs.lemmas.Slice.Eq.{slice_eq-Decides}
use Rattle.keybytes.specs.Keys.{KeySpecValue}
use Rattle.keybytes.proofs.SameKinds.{kind_decides}
use Rattle.keybytes.proofs.key_spec.KeySpec.is_of.Goals as goal

pub returns : goal.returns
returns c =
    let decided = slice_eq-Decides kind_decides _ _ _ c.eq.ensures in
    let own = c.as_slice.ensures.value ∙ ap (λ (spec : KeySpecValue). spec.kinds) c.self.view_is in
    (λ yes. sym own ∙ decided.0 yes ∙ c.kinds.ensures.kinds, λ same. decided.1 (own ∙ same ∙ sym c.kinds.ensures.kinds))
