-- The records of an input line that were told so far.
use Rattle.std.proofs.Common.{◌≡◌, List, [], ◌∷◌, ◌++◌, ℕ, refl, sym, ◌∙◌}
use Rattle.std.proofs.lemmas.List.{append-nil, append_assoc}
use Rattle.std.specs.List.{AllZip}
use Rattle.script.specs.InputLines.{IsTold, TellsNext}
use Rattle.script.specs.declared.input_record.InputRecord.{InputRecord}
use Rattle.script.proofs.Zips.{zip_push}

-- the first of these records are told, and the others are left
pub record ToldSoFar (all : List (List (List ℕ))) (left : List (List (List ℕ))) (told : List InputRecord) : Type 0 where
  pub before : List (List (List ℕ))
  pub split : all ≡ before ++ left
  pub each : AllZip IsTold before told

pub none_told : (all : List (List (List ℕ))) → ToldSoFar all all []
none_told all = record { before = []; split = refl; each = tt }

pub one_told : (all left rest : List (List (List ℕ))) (told : List InputRecord) (next : InputRecord) → ToldSoFar all left told
    → TellsNext left rest next → ToldSoFar all rest (told ++ next ∷ [])
one_told all left rest told next so (fields, is, one) = record {
  before = so.before ++ fields ∷ [];
  split = so.split ∙ rw is (sym (append_assoc so.before (fields ∷ []) rest));
  each = zip_push IsTold so.before told fields next so.each one;
}

pub all_told : (all : List (List (List ℕ))) (told : List InputRecord) → ToldSoFar all [] told → AllZip IsTold all told
all_told all told so = rw (so.split ∙ append-nil so.before) so.each
