-- The elements for one index, as they are taken out one after another, and put back.
use Rattle.std.proofs.Common.{◌≡◌, ℕ, suc, ◌+◌, ◌-◌, ◌*◌, ◌<◌, ◌≤◌, List, [], ◌∷◌, ◌++◌, length, get_or, Some, sym, ap, ◌∙◌, arith, append_assoc}
use Rattle.std.specs.List.{slice_get, remove, insert}
use Rattle.std.proofs.lemmas.Option.{slice_get-get_or}
use Rattle.std.proofs.Math.Nat.{mul-suc, suc-mul}
use Rattle.std.proofs.lemmas.Nat.{mul-le}
use Rattle.index_load.specs.Columns.{every, all_but}
use Rattle.index_load.proofs.Columns.{every_removed, all_but_removed, every_behind, all_but_behind, every_put, all_but_put}

-- each of so many workers has one of the index, and the others
pub parted : (workers indexes index : ℕ) → index < indexes → workers * indexes ≡ workers * (indexes - 1) + workers
parted workers indexes index less =
    ap (λ n. workers * n) (let e : indexes ≡ suc (indexes - 1) = omega (arith, less) in e) ∙ mul-suc workers (indexes - 1)

-- so many workers have as many each
enough_for : (n k count : ℕ) → k < count → k * n + n ≤ count * n
enough_for n k count less = let last = mul-le (suc k) n count n (omega (arith, less)) (omega arith) in let e = suc-mul k n in omega (arith, last, e)

-- the place of the next one
next_place : (worker n index : ℕ) → (worker + 1) * n + index ≡ (worker * n + index) + n
next_place worker n index =
    let e = suc-mul worker n in
    let one : (worker + 1) * n ≡ suc worker * n = ap (λ k. k * n) (let s : worker + 1 ≡ suc worker = omega arith in s) in
    omega (arith, e, one)

module _ {X : Type 0} (workers indexes index : ℕ) (there : index < indexes) (all others : List X) where
  abbrev between : ℕ
  between = indexes - 1

  -- the next one is taken out
  module _ (worker : ℕ) (own xs : List X) (x : X) where
    abbrev place : ℕ
    place = worker * between + index

    module _ (left : length xs + worker ≡ workers * indexes) (less : worker < workers) (is : x ≡ get_or xs place x) where
      at_place : slice_get xs place ≡ Some x
      at_place =
          let enough = enough_for indexes worker workers less in
          let some = parted worker indexes index there in
          slice_get-get_or xs place x (omega (arith, left, enough, some, there)) ∙ ap Some (sym is)

      pub own_taken :
          (own ++ every between place xs ≡ all) → (own ++ x ∷ []) ++ every between ((worker + 1) * between + index) (remove xs place) ≡ all
      own_taken before =
          append_assoc own (x ∷ []) (every between ((worker + 1) * between + index) (remove xs place))
          ∙ ap (λ i. own ++ (x ∷ every between i (remove xs place))) (next_place worker between index)
          ∙ ap (λ l. own ++ l) (sym (every_removed between place xs x at_place)) ∙ before

      pub others_taken :
          all_but between place xs ≡ others → all_but between ((worker + 1) * between + index) (remove xs place) ≡ others
      others_taken before =
          ap (λ i. all_but between i (remove xs place)) (next_place worker between index) ∙ sym (all_but_removed between place xs x at_place) ∙ before

    -- one is put back
    module _ (few : worker < workers) (more : length xs + (worker + 1) ≡ workers * indexes) where
      within : place ≤ length xs
      within =
          let enough = enough_for indexes worker workers few in
          let some = parted worker indexes index there in
          omega (arith, more, enough, some, there)

      pub own_back :
          (own ++ x ∷ []) ++ every between ((worker + 1) * between + index) xs ≡ all → own ++ every between place (insert xs place x) ≡ all
      own_back before =
          ap (λ l. own ++ l) (every_put between place xs x within)
          ∙ ap (λ i. own ++ (x ∷ every between i xs)) (sym (next_place worker between index))
          ∙ sym (append_assoc own (x ∷ []) (every between ((worker + 1) * between + index) xs)) ∙ before

      pub others_back : all_but between ((worker + 1) * between + index) xs ≡ others → all_but between place (insert xs place x) ≡ others
      others_back before =
          all_but_put between place xs x within ∙ ap (λ i. all_but between i xs) (sym (next_place worker between index)) ∙ before

  -- behind the last worker there is none
  module _ (xs : List X) (left : length xs + workers ≡ workers * indexes) where
    behind : length xs ≤ workers * between + index
    behind = let some = parted workers indexes index there in omega (arith, left, some)

    pub none_left : every between (workers * between + index) xs ≡ []
    none_left = every_behind between (workers * between + index) xs behind

    pub all_left : all_but between (workers * between + index) xs ≡ xs
    all_left = all_but_behind between (workers * between + index) xs behind
