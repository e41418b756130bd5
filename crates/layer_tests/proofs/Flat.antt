-- Runs of several spools.
use Rattle.std.proofs.Common.{◌≡◌, ◌∙◌, ◌==◌, ℕ, List, [], ◌∷◌, ◌++◌, All, length, take, map, ◌<◌, sym, ap, subst, true}
use Rattle.std.proofs.Math.Seq.{take-append_seam}
use Rattle.std.specs.List.{list_all}
use Rattle.std.specs.List.Sorted.{IsSorted}
use Rattle.std.proofs.lemmas.Bool.{and_parts, eqb-true}
use Rattle.std.proofs.lemmas.List.{nil_from_length}
use Rattle.std.proofs.lemmas.List.Elements.{All-append, All-cons, All-head, All-tail, All-nil, All-map, All-weaker}
use Rattle.keybytes.specs.Pairs.{pair_cmp}
use Rattle.keybytes.specs.declared.pair.Pair.{Pair}
use Rattle.run_spool.specs.Spools.{AreSorted, NoneEmpty, holds_nothing}
use Rattle.run_maker.specs.Making.{AreReady}
use Rattle.run_merge.specs.Merging.{all_runs}

-- where the runs of each spool are sorted all are
pub each_sorted : (spools : List (List (List Pair))) → All AreSorted spools → AreSorted (all_runs spools)
each_sorted [] all = All-nil (IsSorted pair_cmp)
each_sorted (runs ∷ spools) all = All-append (IsSorted pair_cmp) runs (all_runs spools) (All-head AreSorted runs spools all)
    (each_sorted spools (All-tail AreSorted runs spools all))

-- what is written to a whole list
pub written_back : {X : Type 0} (n : ℕ) (xs ys : List X) → length xs ≡ n → take n (xs ++ ys) ≡ xs
written_back n xs ys e = ap (λ (m : ℕ). take m (xs ++ ys)) (sym e) ∙ take-append_seam xs ys

-- spools that were looked at, one by one
each_empty : {X : Type 0} (runs : X → List (List Pair)) (open_run : X → List Pair) (xs : List X)
    → list_all (λ x. holds_nothing (runs x) (open_run x)) xs ≡ true → All (λ x. (runs x ≡ []) × (open_run x ≡ [])) xs
each_empty runs open_run [] all = All-nil (λ x. (runs x ≡ []) × (open_run x ≡ []))
each_empty runs open_run (x ∷ xs) all =
    let both = and_parts (holds_nothing (runs x) (open_run x)) (list_all (λ y. holds_nothing (runs y) (open_run y)) xs) all in
    let parts = and_parts (length (runs x) == 0) (length (open_run x) == 0) both.0 in
    All-cons (λ y. (runs y ≡ []) × (open_run y ≡ [])) x xs
    (nil_from_length (runs x) (eqb-true (length (runs x)) 0 parts.0), nil_from_length (open_run x) (eqb-true (length (open_run x)) 0 parts.1))
    (each_empty runs open_run xs both.1)

-- spools with no run and no pair may take runs
pub empty_ready : {X : Type 0} (runs : X → List (List Pair)) (open_run : X → List Pair) (xs : List X)
    → list_all (λ x. holds_nothing (runs x) (open_run x)) xs ≡ true → AreReady (map runs xs) (map open_run xs)
empty_ready {X} runs open_run xs all =
    let Empty : X → Type 0 = λ x. (runs x ≡ []) × (open_run x ≡ []) in
    let each = each_empty runs open_run xs all in
    record {
      none_empty = All-map NoneEmpty runs xs
          (All-weaker Empty (λ x. NoneEmpty (runs x)) (λ x e. subst NoneEmpty (sym e.0) (All-nil (λ run. 0 < length run))) xs each);
      open_none = All-map (λ run. run ≡ []) open_run xs (All-weaker Empty (λ x. open_run x ≡ []) (λ x e. e.1) xs each);
    }

-- and their runs are sorted
pub empty_sorted : {X : Type 0} (runs : X → List (List Pair)) (open_run : X → List Pair) (xs : List X)
    → list_all (λ x. holds_nothing (runs x) (open_run x)) xs ≡ true → All AreSorted (map runs xs)
empty_sorted runs open_run xs all =
    All-map AreSorted runs xs
    (All-weaker (λ x. (runs x ≡ []) × (open_run x ≡ [])) (λ x. AreSorted (runs x)) (λ x e. subst AreSorted (sym e.0) (All-nil (IsSorted pair_cmp))) xs
    (each_empty runs open_run xs all))
