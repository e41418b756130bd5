-- The first columns of a key.
use Rattle.std.proofs.Common.{◌≡◌, ℕ, zero, suc, ◌≤◌, ◌&&◌, not, nat_le, nat_lt, nat_eq, Bool, true, false, List, [], ◌∷◌, length, take, min}
use Rattle.std.proofs.Common.{Some, None, refl, subst, arith, length-take}
use Rattle.std.specs.List.{list_any, list_all}
use Rattle.std.proofs.lemmas.Bool.{and_parts, and_from, or_parts, or_from, not_from_false, leb-true, le-leb, lt-ltb, false_from_ne_true}
use Rattle.keybytes.specs.Keys.{KeySpecValue, are_distinct, are_key_columns, are_there, has_key_length}
use Rattle.keybytes.specs.Schemas.{same_kinds}
use Rattle.keybytes.specs.declared.fault.Fault.TheVariants.{BadColumn}
use Rattle.keybytes.specs.declared.key_col.KeyCol.{KeyCol}
use Rattle.keybytes.specs.declared.kind.Kind.{Kind}
use Rattle.keybytes.proofs.SameKinds.{same_kinds_decides}
use Rattle.kept_table.specs.Lookups.{spec_refusal}

module _ {X : Type 0} (test : X → Bool) where
  none_first : (n : ℕ) (xs : List X) → list_any test xs ≡ false → list_any test (take n xs) ≡ false
  none_first zero xs none = refl
  none_first (suc n) [] none = refl
  none_first (suc n) (x ∷ xs) none =
      let parts = or_parts (test x) (list_any test xs) none in or_from (test x) (list_any test (take n xs)) parts.0 (none_first n xs parts.1)

  all_first : (n : ℕ) (xs : List X) → list_all test xs ≡ true → list_all test (take n xs) ≡ true
  all_first zero xs all = refl
  all_first (suc n) [] all = refl
  all_first (suc n) (x ∷ xs) all =
      let parts = and_parts (test x) (list_all test xs) all in and_from (test x) (list_all test (take n xs)) parts.0 (all_first n xs parts.1)

not_true : (b : Bool) → not b ≡ true → b ≡ false
not_true true e = absurd (cc)
not_true false e = refl

distinct_first : (n : ℕ) (columns : List KeyCol) → are_distinct columns ≡ true → are_distinct (take n columns) ≡ true
distinct_first zero columns distinct = refl
distinct_first (suc n) [] distinct = refl
distinct_first (suc n) (named ∷ columns) distinct =
    let is_named : KeyCol → Bool = λ other. nat_eq other.column named.column in
    let parts = and_parts (not (list_any is_named columns)) (are_distinct columns) distinct in
    and_from (not (list_any is_named (take n columns))) (are_distinct (take n columns))
    (not_from_false (list_any is_named (take n columns)) (none_first is_named n columns (not_true (list_any is_named columns) parts.0)))
    (distinct_first n columns parts.1)

-- so many of the columns, and some, have a key's length where all have it
length_first :
    (n : ℕ) (columns : List KeyCol) → 1 ≤ n → n ≤ length columns → has_key_length columns ≡ true → has_key_length (take n columns) ≡ true
length_first n columns some most fit =
    let parts = and_parts (nat_lt 0 (length columns)) (nat_le (length columns) 4) fit in
    let few : length columns ≤ 4 = leb-true (length columns) 4 parts.1 in
    let many : length (take n columns) ≡ min n (length columns) = length-take n columns in
    and_from (nat_lt 0 (length (take n columns))) (nat_le (length (take n columns)) 4)
    (lt-ltb 0 (length (take n columns)) (omega (arith, many, some, most)))
    (le-leb (length (take n columns)) 4 (omega (arith, many, some, most, few)))

-- the first so many of a key's columns make a key too
first_are_key_columns :
    (kinds : List Kind) (n : ℕ) (columns : List KeyCol)
    → 1 ≤ n → n ≤ length columns → are_key_columns kinds columns ≡ true → are_key_columns kinds (take n columns) ≡ true
first_are_key_columns kinds n columns some most key =
    let parts = and_parts (has_key_length columns) (are_distinct columns && are_there kinds columns) key in
    let rest = and_parts (are_distinct columns) (are_there kinds columns) parts.1 in
    and_from (has_key_length (take n columns)) (are_distinct (take n columns) && are_there kinds (take n columns))
    (length_first n columns some most parts.0)
    (and_from (are_distinct (take n columns)) (are_there kinds (take n columns))
    (distinct_first n columns rest.0)
    (all_first (λ (named : KeyCol). nat_lt named.column (length kinds)) n columns rest.1))

-- there are so many columns, and some
abbrev pub AreSoMany : ℕ → List KeyCol → Type 0
AreSoMany count columns = (nat_le 1 count && nat_le count (length columns)) ≡ true

-- so many columns, and some, of a specification make a key, or it is of other columns than the table
module _ (kinds : List Kind) (count : ℕ) (spec : KeySpecValue) (front : AreSoMany count spec.columns) where
  pub other_table : (spec.kinds ≡ kinds → ⊥) → spec_refusal kinds count spec ≡ Some BadColumn
  other_table other =
      let differ = false_from_ne_true (same_kinds spec.kinds kinds) (λ e. other ((same_kinds_decides spec.kinds kinds).0 e)) in
      rw (front, differ) refl

  module _ (same : spec.kinds ≡ kinds) where
    pub no_refusal : spec_refusal kinds count spec ≡ None
    no_refusal = let agree : same_kinds spec.kinds kinds ≡ true = (same_kinds_decides spec.kinds kinds).1 same in rw (front, agree) refl

    pub first_make_key : are_key_columns spec.kinds spec.columns ≡ true → are_key_columns kinds (take count spec.columns) ≡ true
    first_make_key key =
        let parts = and_parts (nat_le 1 count) (nat_le count (length spec.columns)) front in
        subst (λ (ks : List Kind). are_key_columns ks (take count spec.columns) ≡ true) same
        (first_are_key_columns spec.kinds count spec.columns (leb-true 1 count parts.0) (leb-true count (length spec.columns) parts.1) key)
