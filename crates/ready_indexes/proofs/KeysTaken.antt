-- The key that a change takes from its row.
use Rattle.std.proofs.Common.{◌≡◌, true, false, List, [], ◌∷◌, ◌++◌, ℕ, Option, Some, None, refl, sym, ap, ◌∙◌, inl, inr}
use Rattle.std.specs.Prelude.{nat_eq}
use Rattle.std.specs.Cmp.Lexicographic.{pointwise}
use Rattle.std.specs.Str.{bytes_eq}
use Rattle.std.proofs.lemmas.Slice.Eq.{bytes_eq-Decides}
use Rattle.std.proofs.lemmas.Bool.{cases_Bool, false_from_ne_true, false≢true}
use Rattle.keybytes.specs.Keys.{KeySpecValue, key_there}
use Rattle.keybytes.specs.Pairs.{pair_with}
use Rattle.keybytes.specs.declared.cell.Cell.{Cell}
use Rattle.keybytes.specs.declared.rid.Rid.{Rid}
use Rattle.key_guards.specs.GuardLists.{key_left, key_taken}
use Rattle.visibility.specs.SideEntries.{SideEntry, changes, entries_of_change, pair_under, delete_at, insert_at, delete, insert}
use Rattle.visibility.specs.declared.change.Change.{Change}

-- the key that leaves, by the first of the entries
left_by : List SideEntry → Option (List ℕ)
left_by [] = None
left_by (delete pair ∷ entries) = Some pair.key
left_by (insert pair ∷ entries) = None

left_is : (rid : Rid) (change : Change) → left_by (entries_of_change rid change) ≡ change.delete
unfolding left_by
left_is rid change = by_parts change.delete change.insert where
  by_parts : (gone come : Option (List ℕ)) → left_by (delete_at rid gone ++ insert_at rid come) ≡ gone
  by_parts None None = refl
  by_parts None (Some key) = refl
  by_parts (Some key) None = refl
  by_parts (Some key) (Some new) = refl

left_of : (rid : Rid) (old new : Option (List ℕ)) → left_by (changes (pair_under rid old) (pair_under rid new)) ≡ key_left old new
unfolding left_by
left_of rid None None = refl
left_of rid None (Some key) = refl
left_of rid (Some key) None = refl
left_of rid (Some old) (Some new) = elim (cases_Bool (pointwise nat_eq old new)) [
  | inl same ↦
      let alike : bytes_eq new old ≡ true = (bytes_eq-Decides new old).1 (sym ((bytes_eq-Decides old new).0 same)) in
      rw (same, alike) refl
  | inr other ↦
      let unlike : bytes_eq new old ≡ false =
      false_from_ne_true (bytes_eq new old) (λ alike. false≢true (sym other ∙ (bytes_eq-Decides old new).1 (sym ((bytes_eq-Decides new old).0 alike)))) in
      rw (other, unlike) refl
]

pub taken_is :
    (spec : KeySpecValue) (rid : Rid) (old new : Option (List Cell)) (change : Change)
    → entries_of_change rid change ≡ changes (pair_with spec rid old) (pair_with spec rid new) → change.delete ≡ key_taken spec old new
taken_is spec rid old new change are = sym (left_is rid change) ∙ ap left_by are ∙ left_of rid (key_there spec old) (key_there spec new)
