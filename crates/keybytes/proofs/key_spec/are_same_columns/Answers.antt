use Rattle.std.proofs.lemmas.Slice.Eq.{slice_eq-Decides}
use Rattle.keybytes.proofs.SameColumns.{column_decides}
use Rattle.keybytes.proofs.key_spec.are_same_columns.Goals as goal

pub returns : goal.returns
returns c = slice_eq-Decides column_decides _ _ _ c.eq.ensures
