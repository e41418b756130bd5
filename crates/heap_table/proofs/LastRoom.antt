-- The room of the last page, which stands beside those of the others.
use Rattle.std.proofs.Common.{◌≡◌, ◌∙◌, ℕ, ◌+◌, Bool, true, false, eqb, List, [], ◌∷◌, ◌++◌, length, Some, None, arith, refl, sym, inl, inr, length-append}
use Rattle.std.specs.Prelude.{cond, nat_lt, position, ◌≤◌}
use Rattle.std.specs.List.{position_or_len}
use Rattle.std.proofs.lemmas.Bool.{cases_lt}
use Rattle.std.proofs.lemmas.Bool.Decides.{nat_tests}
use Rattle.std.proofs.lemmas.List.Folds.{position_or_len_push}
use Rattle.std.proofs.lemmas.List.Sums.{prefix_len-le-length}
use Rattle.heap_table.specs.Rooms.{RoomsValue, with_last}

-- where the first item stands that passes, with one item more
behind : (p : ℕ → Bool) (xs : List ℕ) (y : ℕ) → position p (xs ++ y ∷ [])
    ≡ cond (nat_lt (position_or_len p xs) (length xs)) (Some (position_or_len p xs)) (cond (p y) (Some (length xs)) None)
behind p xs y =
    let n = position_or_len p xs in
    let longer : length (xs ++ y ∷ []) ≡ length xs + 1 = length-append xs (y ∷ []) in
    let most : n ≤ length xs = prefix_len-le-length _ xs in
    rw (longer, position_or_len_push p xs y) (elim (cases_lt n (length xs)) [
      | inl less ↦ grind (arith, nat_tests, less)
      | inr past ↦ by_last (p y) refl past most
    ])
  where
    by_last : (b : Bool) → p y ≡ b → length xs ≤ position_or_len p xs → position_or_len p xs ≤ length xs →
        cond (nat_lt (cond (eqb (position_or_len p xs) (length xs)) (length xs + cond (p y) 0 1) (position_or_len p xs)) (length xs + 1))
        (Some (cond (eqb (position_or_len p xs) (length xs)) (length xs + cond (p y) 0 1) (position_or_len p xs))) None
        ≡ cond (nat_lt (position_or_len p xs) (length xs)) (Some (position_or_len p xs)) (cond (p y) (Some (length xs)) None)
    by_last true is past most = grind (arith, nat_tests, is, past, most)
    by_last false is past most = grind (arith, nat_tests, is, past, most)

-- an insert goes to the last page where the others have no room
pub lowest_last : (p : ℕ → Bool) (below : RoomsValue) (room : ℕ) → None ≡ position p below.rooms → p room ≡ true
    → Some (length below.rooms) ≡ position p (with_last below (Some room)).rooms
lowest_last p below room e fits = elim (cases_lt (position_or_len p below.rooms) (length below.rooms)) [
  | inl less ↦ absurd (grind (arith, nat_tests, less, e))
  | inr past ↦ sym (behind p below.rooms room ∙ grind (arith, nat_tests, past, fits))
]
