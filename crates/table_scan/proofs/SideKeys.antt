-- The keys of a side-file's entries are those of rows.
use Rattle.std.proofs.Common.{ℕ, Bool, List, [], ◌∷◌, map, Option, Some, None, refl, sym, subst, inl, inr}
use Rattle.std.specs.Prelude.{nat_eq, true, false, if◌then◌else◌, IfSome}
use Rattle.std.specs.List.{AllByRecursion}
use Rattle.std.specs.Cmp.Lexicographic.{pointwise}
use Rattle.std.proofs.lemmas.Bool.{cases_Bool, cond-true, cond-false}
use Rattle.keybytes.specs.Conditions.{takes}
use Rattle.keybytes.specs.Keys.{KeySpecValue, key_of, key_there, IsKeyOf}
use Rattle.keybytes.specs.Pairs.{pair_with}
use Rattle.keybytes.specs.declared.cell.Cell.{Cell}
use Rattle.keybytes.specs.declared.rid.Rid.{Rid}
use Rattle.heap_table.specs.Kept.{IsTableRow}
use Rattle.side_file.specs.Entries.{entry_of}
use Rattle.side_file.specs.declared.entry.Entry.{Entry}
use Rattle.visibility.specs.SideEntries.{SideEntry, delete, insert, changes, pair_under}
use Rattle.build_events.specs.CoreState.{BuildState}
use Rattle.table_scan.specs.SideFiles.{sees, noted}

abbrev Keyed : KeySpecValue → List Entry → Type 0
Keyed spec entries = AllByRecursion (λ entry. IsKeyOf spec entry.key) entries

-- the key that the index has of a row, if it has one, is that row's
row_key : (spec : KeySpecValue) (row : Option (List Cell)) → IfSome row (IsTableRow spec.kinds) → IfSome (key_there spec row) (IsKeyOf spec)
row_key spec None of_table = tt
row_key spec (Some cells) of_table = where_taken (takes spec.condition cells) where
  where_taken : (taken : Bool) → IfSome (if taken then Some (key_of spec cells) else None) (IsKeyOf spec)
  where_taken true = (cells, (record { is_row = of_table.0; fits_kinds = of_table.1 }, refl))
  where_taken false = tt

-- of what changes at a RID from one key, if any, to another
keys_between :
    (spec : KeySpecValue) (number : ℕ) (rid : Rid) (old new : Option (List ℕ)) → IfSome old (IsKeyOf spec) → IfSome new (IsKeyOf spec)
    → Keyed spec (map (entry_of number) (changes (pair_under rid old) (pair_under rid new)))
keys_between spec number rid None None of_old of_new = tt
keys_between spec number rid None (Some new) of_old of_new = (of_new, tt)
keys_between spec number rid (Some old) None of_old of_new = (of_old, tt)
keys_between spec number rid (Some old) (Some new) of_old of_new =
    let same : Bool = pointwise nat_eq old new in
    let both : List SideEntry = delete (record { key = old; rid = rid }) ∷ insert (record { key = new; rid = rid }) ∷ [] in
    let P : List SideEntry → Type 0 = λ es. Keyed spec (map (entry_of number) es) in
    elim (cases_Bool same) [
      | inl equal ↦ subst P (sym (cond-true same [] both equal)) tt
      | inr differ ↦ subst P (sym (cond-false same [] both differ)) (of_old, (of_new, tt))
    ]

-- of what changes at a RID
pub change_keys :
    (spec : KeySpecValue) (number : ℕ) (rid : Rid) (old new : Option (List Cell)) → IfSome old (IsTableRow spec.kinds) → IfSome new (IsTableRow spec.kinds)
    → Keyed spec (map (entry_of number) (changes (pair_with spec rid old) (pair_with spec rid new)))
change_keys spec number rid old new of_old of_new =
    keys_between spec number rid (key_there spec old) (key_there spec new) (row_key spec old of_old) (row_key spec new of_new)

-- of what a change appends
pub noted_keys :
    (b : BuildState) (spec : KeySpecValue) (rid : Rid) (old new : Option (List Cell)) → IfSome old (IsTableRow spec.kinds) → IfSome new (IsTableRow spec.kinds)
    → Keyed spec (map (entry_of b.number) (noted b spec rid old new))
noted_keys b spec rid old new of_old of_new =
    let here : List SideEntry = changes (pair_with spec rid old) (pair_with spec rid new) in
    let P : List SideEntry → Type 0 = λ es. Keyed spec (map (entry_of b.number) es) in
    elim (cases_Bool (sees b rid)) [
      | inl shown ↦ subst P (sym (cond-true (sees b rid) here [] shown)) (change_keys spec b.number rid old new of_old of_new)
      | inr hidden ↦ subst P (sym (cond-false (sees b rid) here [] hidden)) tt
    ]
