-- Spools that are dealt, one to a thread, and come back.
use Rattle.std.proofs.Common.{◌≡◌, ◌<◌, ◌+◌, ℕ, List, [], ◌∷◌, ◌++◌, All, length, map, drop, get_or, false, refl, sym, ap, ap₂, ◌∙◌, subst, arith, append_assoc, append-nil}
use Rattle.std.specs.Prelude.{Bool, IsPermutation}
use Rattle.std.specs.Cmp.{eq_by_cmp_equiv}
use Rattle.std.specs.List.{AllByRecursion, IsDistinct, flat_map}
use Rattle.std.specs.Ordering.{eq_by_cmp}
use Rattle.std.proofs.lemmas.Grind.{flat_map-append}
use Rattle.std.proofs.lemmas.List.{drop-drop, get_or-drop, map-append}
use Rattle.std.proofs.lemmas.List.Elements.{All-cons, All-nil}
use Rattle.std.proofs.lemmas.List.Sorted.{IsPermutation-append, IsPermutation-refl, IsPermutation-trans}
use Rattle.std.proofs.lemmas.Map.Keys.{IsDistinct-IsPermutation}
use Rattle.keybytes.specs.Pairs.{AreOrdered, pair_cmp}
use Rattle.keybytes.specs.declared.pair.Pair.{Pair}
use Rattle.keybytes.proofs.PairSets.{pairs_total}
use Rattle.run_merge.specs.Merging.{all_runs}
use Rattle.run_spool.specs.Spools.{all_pairs}
use Rattle.bulk_load.specs.Each.{AreEachOnce, in_order}
use Rattle.bulk_load.proofs.InOrder.{set_moved, set_ordered}

-- the first of a list is taken out
pub first_taken : {X : Type 0} (xs : List X) (x : X) (rest : List X) → 0 < length xs → x ≡ get_or xs 0 x → rest ≡ drop 1 xs → xs ≡ x ∷ rest
first_taken [] x rest some is gone = absurd (omega (arith, some))
first_taken (y ∷ ys) x rest some is gone = ap₂ ◌∷◌ (sym is) (sym gone)

-- the runs of one spool alone
pub one_spool : (runs : List (List Pair)) → all_runs (runs ∷ []) ≡ runs
one_spool runs = append-nil runs

-- the first of what is left of a list
pub head_at : {X : Type 0} (xs : List X) (n : ℕ) (d x : X) (rest : List X) → drop n xs ≡ x ∷ rest → get_or xs n d ≡ x
head_at xs n d x rest e = ap (λ k. get_or xs k d) (omega arith) ∙ (sym (get_or-drop n xs 0 d) ∙ ap (λ zs. get_or zs 0 d) e)

pub behind_head : {X : Type 0} (xs : List X) (n : ℕ) (x : X) (rest : List X) → drop n xs ≡ x ∷ rest → drop (n + 1) xs ≡ rest
behind_head xs n x rest e = sym (drop-drop 1 n xs) ∙ ap (drop 1) e

-- one more is made of the first of those that are left
pub moved :
    {A C : Type 0} (f : A → C) (xs : List A) (x : A) (y : C) (ys all : List C) → map f xs ++ y ∷ ys ≡ all → f x ≡ y → map f (xs ++ x ∷ []) ++ ys ≡ all
moved f xs x y ys all h e =
    ap (λ z. z ++ ys) (map-append f xs (x ∷ [])) ∙ append_assoc (map f xs) (f x ∷ []) ys ∙ ap (λ z. map f xs ++ z ∷ ys) e ∙ h

pub moved_on : {C : Type 0} (xs : List C) (x y : C) (ys all : List C) → xs ++ y ∷ ys ≡ all → x ≡ y → (xs ++ x ∷ []) ++ ys ≡ all
moved_on xs x y ys all h e = append_assoc xs (x ∷ []) ys ∙ ap (λ z. xs ++ z ∷ ys) e ∙ h

-- one of each, one after the other
pub flat_ones : {X Y : Type 0} (f : X → Y) (xs : List X) → flat_map (λ (l : List Y). l) (map (λ x. f x ∷ []) xs) ≡ map f xs
flat_ones f [] = refl
flat_ones f (x ∷ xs) = ap (λ ys. f x ∷ ys) (flat_ones f xs)

pub flat_of_map : {X Y : Type 0} (f : X → List Y) (xs : List X) → flat_map f xs ≡ flat_map (λ (l : List Y). l) (map f xs)
flat_of_map f [] = refl
flat_of_map f (x ∷ xs) = ap (λ ys. f x ++ ys) (flat_of_map f xs)

all_left : {X : Type 0} (P : X → Type 0) (xs ys : List X) → AllByRecursion P (xs ++ ys) → AllByRecursion P xs
all_left P [] ys all = tt
all_left P (x ∷ xs) ys all = (all.0, all_left P xs ys all.1)

distinct_left : {X : Type 0} (same : X → X → Bool) (xs ys : List X) → IsDistinct same (xs ++ ys) → IsDistinct same xs
unfolding IsDistinct
distinct_left same [] ys all = tt
distinct_left same (x ∷ xs) ys all = (all_left (λ y. same x y ≡ false) xs ys all.0, distinct_left same xs ys all.1)

distinct_right : {X : Type 0} (same : X → X → Bool) (xs ys : List X) → IsDistinct same (xs ++ ys) → IsDistinct same ys
unfolding IsDistinct
distinct_right same [] ys all = all
distinct_right same (x ∷ xs) ys all = distinct_right same xs ys all.1

-- the pairs of the first spool, and those of the others
parted : (runs : List (List Pair)) (spools : List (List (List Pair))) → all_pairs (all_runs (runs ∷ spools)) ≡ all_pairs runs ++ all_pairs (all_runs spools)
parted runs spools = flat_map-append (λ (r : List Pair). r) runs (all_runs spools)

-- where each pair is there once, so it is in each spool
pub each_once : (spools : List (List (List Pair))) → AreEachOnce (all_pairs (all_runs spools)) → All (λ runs. AreEachOnce (all_pairs runs)) spools
each_once [] once = All-nil (λ runs. AreEachOnce (all_pairs runs))
each_once (runs ∷ spools) once =
    let both : AreEachOnce (all_pairs runs ++ all_pairs (all_runs spools)) = subst AreEachOnce (parted runs spools) once in
    All-cons (λ runs. AreEachOnce (all_pairs runs)) runs spools (distinct_left (eq_by_cmp pair_cmp) (all_pairs runs) (all_pairs (all_runs spools)) both)
    (each_once spools (distinct_right (eq_by_cmp pair_cmp) (all_pairs runs) (all_pairs (all_runs spools)) both))

-- the pairs of all, spool by spool in order
spools_moved : (spools : List (List (List Pair))) → AreEachOnce (all_pairs (all_runs spools)) → IsPermutation (all_pairs (all_runs spools)) (all_pairs (map in_order spools))
spools_moved [] once = IsPermutation-refl []
spools_moved (runs ∷ spools) once =
    let both : AreEachOnce (all_pairs runs ++ all_pairs (all_runs spools)) = subst AreEachOnce (parted runs spools) once in
    subst (λ (ps : List Pair). IsPermutation ps (in_order runs ++ all_pairs (map in_order spools))) (sym (parted runs spools))
    (IsPermutation-append (all_pairs runs) (in_order runs) (all_pairs (all_runs spools)) (all_pairs (map in_order spools))
    (set_moved (all_pairs runs) (distinct_left (eq_by_cmp pair_cmp) (all_pairs runs) (all_pairs (all_runs spools)) both))
    (spools_moved spools (distinct_right (eq_by_cmp pair_cmp) (all_pairs runs) (all_pairs (all_runs spools)) both)))

pub still_once : (spools : List (List (List Pair))) → AreEachOnce (all_pairs (all_runs spools)) → AreEachOnce (all_pairs (map in_order spools))
still_once spools once =
    IsDistinct-IsPermutation (eq_by_cmp pair_cmp) (eq_by_cmp_equiv pairs_total).symm (all_pairs (all_runs spools)) (all_pairs (map in_order spools)) (spools_moved spools once) once

-- and all in order
pub whole_moved : (spools : List (List (List Pair))) → AreEachOnce (all_pairs (all_runs spools)) → IsPermutation (all_pairs (all_runs spools)) (in_order (map in_order spools))
whole_moved spools once =
    IsPermutation-trans (all_pairs (all_runs spools)) (all_pairs (map in_order spools)) (in_order (map in_order spools)) (spools_moved spools once)
    (set_moved (all_pairs (map in_order spools)) (still_once spools once))

pub are_ordered : (spools : List (List (List Pair))) → All AreOrdered (map in_order spools)
are_ordered [] = All-nil AreOrdered
are_ordered (runs ∷ spools) = All-cons AreOrdered (in_order runs) (map in_order spools) (set_ordered (all_pairs runs)) (are_ordered spools)
