use denote.Ref.{Bor}
use Rattle.std.proofs.Common.{◌≡◌, ℕ, zero, suc, ◌+◌, List, [], ◌∷◌, length, drop, option_map, Option, Some, None, IfSome, add-one, ap, refl, sym, ◌∙◌}
use Rattle.std.proofs.lemmas.Iterator.{items_from_drains}
use Rattle.std.proofs.lemmas.Iterator.Consumers.{YieldsList-from_shown}
use Rattle.csv.specs.Records.{field_at, fields_of}
use Rattle.csv.specs.declared.record.StringRecordIter.{StringRecordIter}
use Rattle.script.specs.Fields.{texts}
use Rattle.script.proofs.parse.fields.Goals as goal

-- a place with no field is past the last one
past_fields : (fields : List (List ℕ)) (i : ℕ) → field_at fields i ≡ None → length (drop i fields) ≡ 0
unfolding field_at
past_fields [] zero none = refl
past_fields [] (suc i) none = refl
past_fields (f ∷ fs) zero none = cc
past_fields (f ∷ fs) (suc i) none = past_fields fs i none

-- a field, and those behind it
at_field : (fields : List (List ℕ)) (i : ℕ) (field : List ℕ) → field_at fields i ≡ Some field → drop i fields ≡ field ∷ drop (suc i) fields
unfolding field_at
at_field [] i field some = cc
at_field (f ∷ fs) zero field some = cc
at_field (f ∷ fs) (suc i) field some = at_field fs i field some

-- the fields that are still to come
abbrev fields_left : StringRecordIter → List (List ℕ)
fields_left s = drop s.at (fields_of s.row.now)

-- one call of `next`
abbrev GivesField : StringRecordIter → Option (Bor (List ℕ)) → StringRecordIter → Type 0
GivesField a r b = (b.row ≡ a.row) × (option_map (λ s. s.now) r ≡ field_at (fields_of a.row.now) a.at) × IfSome r (λ _. b.at ≡ a.at + 1)

gives_none : (s t : StringRecordIter) → GivesField s None t → length (fields_left s) ≡ 0
gives_none s t h = past_fields (fields_of s.row.now) s.at (sym h.1)

gives_some : (s : StringRecordIter) (x : Bor (List ℕ)) (t : StringRecordIter) → GivesField s (Some x) t → fields_left s ≡ x.now ∷ fields_left t
gives_some s x t h = rw (h.0, h.2, add-one) (at_field (fields_of s.row.now) s.at x.now (sym h.1))

pub returns-clause-ok : goal.returns-clause-ok
returns-clause-ok c =
    let ran = c.in_ok-fields.ensures.ran in
    let all = items_from_drains ran.0 ran.1 (YieldsList-from_shown GivesField (λ s. s.now) fields_left gives_none gives_some c.iter.result) in
    ap texts ran.2.0 ∙ all ∙ rw (c.iter.ensures.at, c.iter.ensures.row) refl
