use Rattle.std.proofs.lemmas.Slice.Eq.{slice_eq-Decides}
use Rattle.keybytes.proofs.SameKinds.{kind_decides}
use Rattle.keybytes.proofs.key_spec.are_same_kinds.Goals as goal

pub returns : goal.returns
returns c = slice_eq-Decides kind_decides _ _ _ c.eq.ensures
