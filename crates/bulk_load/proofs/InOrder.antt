-- Pairs of which none is there twice, in order; and what a merge gives of them.
use Rattle.std.proofs.Common.{◌≡◌, true, false, List, [], ◌∷◌, All, Option, None, Some, sym, ap, subst, ◌∙◌, inl, inr}
use Rattle.std.specs.List.Sorted.{IsSorted}
use Rattle.std.proofs.lemmas.List.Elements.{All-nil, All-head, All-tail, All-append, All-from_recursion, recursion_from_All}
use Rattle.keybytes.specs.Pairs.{pair_cmp, AreOrdered, set_of}
use Rattle.keybytes.specs.declared.pair.Pair.{Pair}
use Rattle.run_spool.specs.Spools.{AreSorted, all_pairs}
use Rattle.run_merge.specs.Merging.{all_runs, Gives, IsLeast, MergedValue}
use Rattle.bulk_load.specs.Each.{AreEachOnce, in_order}
use Rattle.std.specs.FinMap.{keys}
use Rattle.std.specs.Prelude.{IsPermutation, MatchOption, ◌||◌, Result, Ok, Err, IfOk, OnErr}
use Rattle.std.specs.List.{AllByRecursion}
use Rattle.std.specs.Cmp.{eq_by_cmp_equiv}
use Rattle.std.specs.Ordering.{eq_by_cmp}
use Rattle.std.proofs.lemmas.Bool.{cases_Bool, true≢false}
use Rattle.std.proofs.lemmas.List.Folds.{list_any_none}
use Rattle.std.proofs.lemmas.List.Sorted.{All-permutation, IsPermutation-refl, IsPermutation-sym, IsPermutation-trans, IsPermutation-cons}
use Rattle.std.proofs.lemmas.List.Sorted.{IsPermutation-middle, list_any-IsPermutation}
use Rattle.std.proofs.lemmas.Map.Keys.{IsDistinct-head, IsDistinct-tail, IsDistinct-IsPermutation}
use Rattle.keybytes.proofs.PairSets.{pairs_total, itself, in_set, same_sets, contains-set_of, is_in, set_of-keys}
use Rattle.tree_nodes.specs.Lists.{In, IsRising, has, put}
use Rattle.tree_nodes.specs.Order.{is_before}
use Rattle.tree_nodes.proofs.Rising.{rising_put}
use Rattle.tree_nodes.proofs.Strict.{before-strict}
use Rattle.btree.proofs.Sets.{has_is, ordered_of, rises_of}
use Rattle.keybytes.specs.declared.fault.Fault.{Fault}

-- where the runs of each spool are in order, those of all are
pub all_sorted : (spools : List (List (List Pair))) → All AreSorted spools → AreSorted (all_runs spools)
all_sorted [] all = All-nil (IsSorted pair_cmp)
all_sorted (runs ∷ rest) all =
    All-append (IsSorted pair_cmp) runs (all_runs rest) (All-head AreSorted runs rest all) (all_sorted rest (All-tail AreSorted runs rest all))

-- a pair that isn't there is put among others
put_moves : (p : Pair) (ps : List Pair) → has is_before p ps ≡ false → IsPermutation (p ∷ ps) (put is_before p ps)
put_moves p [] h = IsPermutation-refl (p ∷ [])
put_moves p (q ∷ ps) h = elim (cases_Bool (is_before p q)) [
  | inl e ↦ rw e (IsPermutation-refl (p ∷ q ∷ ps))
  | inr e ↦ elim (cases_Bool (is_before q p)) [
    | inl f ↦
        let rest : has is_before p ps ≡ false = rw (e, f) at h in
        rw (e, f) (IsPermutation-trans (p ∷ q ∷ ps) (q ∷ p ∷ ps) (q ∷ put is_before p ps)
        (IsPermutation-sym (q ∷ p ∷ ps) (p ∷ q ∷ ps) (IsPermutation-middle (q ∷ []) p ps)) (IsPermutation-cons q (p ∷ ps) (put is_before p ps) (put_moves p ps rest)))
    | inr f ↦ absurd (true≢false (rw (e, f) at h))
  ]
]

-- the pairs, each put in its place
placed : List Pair → List Pair
placed [] = []
placed (p ∷ ps) = put is_before p (placed ps)

placed_rises : (ps : List Pair) → IsRising is_before (placed ps)
unfolding placed
placed_rises [] = tt
placed_rises (p ∷ ps) = rising_put before-strict p (placed ps) (placed_rises ps)

not_again : (p : Pair) (ps : List Pair) → AreEachOnce (p ∷ ps) → is_in p ps ≡ false
not_again p ps once =
    list_any_none (eq_by_cmp pair_cmp p) ps (All-from_recursion (λ q. eq_by_cmp pair_cmp p q ≡ false) ps (IsDistinct-head (eq_by_cmp pair_cmp) p ps once))

moved : (ps : List Pair) → AreEachOnce ps → IsPermutation ps (placed ps)
unfolding placed
moved [] once = IsPermutation-refl []
moved (p ∷ ps) once =
    let rest : IsPermutation ps (placed ps) = moved ps (IsDistinct-tail (eq_by_cmp pair_cmp) p ps once) in
    let absent : has is_before p (placed ps) ≡ false =
    has_is p (placed ps) ∙ contains-set_of (placed ps) p ∙ sym (list_any-IsPermutation (eq_by_cmp pair_cmp p) ps (placed ps) rest) ∙ not_again p ps once in
    IsPermutation-trans (p ∷ ps) (p ∷ placed ps) (put is_before p (placed ps)) (IsPermutation-cons p ps (placed ps) rest) (put_moves p (placed ps) absent)

-- pairs of which none is there twice, put in order, are all there
pub set_moved : (ps : List Pair) → AreEachOnce ps → IsPermutation ps (keys (set_of ps))
set_moved ps once =
    let all : IsPermutation ps (placed ps) = moved ps once in
    let same : set_of (placed ps) ≡ set_of ps = same_sets (placed ps) ps (λ q. sym (list_any-IsPermutation (eq_by_cmp pair_cmp q) ps (placed ps) all)) in
    subst (IsPermutation ps) (ordered_of (placed ps) (placed_rises ps) ∙ ap keys same) all

pub set_ordered : (ps : List Pair) → AreOrdered (keys (set_of ps))
set_ordered ps = ap keys (sym (set_of-keys (set_of ps)))

every_in : (P : Pair → Type 0) (ps : List Pair) → AllByRecursion P ps → (q : Pair) → In q ps → P q
every_in P [] all q i = absurd i
every_in P (p ∷ ps) all q (inl e) = subst P (sym e) all.0
every_in P (p ∷ ps) all q (inr i) = every_in P ps all.1 q i

-- what is not before a pair and not that pair is behind it
behind : (x q : Pair) → is_before q x ≡ false → eq_by_cmp pair_cmp x q ≡ false → is_before x q ≡ true
behind x q later other = elim (cases_Bool (is_before x q)) [
  | inl e ↦ e
  | inr e ↦ absurd (true≢false (sym (itself x) ∙ ap (λ y. eq_by_cmp pair_cmp x y) (before-strict.tied x q e later) ∙ other))
]

-- the least of such pairs is the first of them in order
first_in_order : (made rest : List Pair) (x : Pair) → AreEachOnce made → IsPermutation made (x ∷ rest) → IsLeast made x
    → keys (set_of made) ≡ x ∷ keys (set_of rest)
unfolding is_before
first_in_order made rest x once perm least =
    let ks : List Pair = keys (set_of rest) in
    let now : AreEachOnce (x ∷ rest) = IsDistinct-IsPermutation (eq_by_cmp pair_cmp) (eq_by_cmp_equiv pairs_total).symm made (x ∷ rest) perm once in
    let all : IsPermutation rest ks = set_moved rest (IsDistinct-tail (eq_by_cmp pair_cmp) x rest now) in
    let later : AllByRecursion (λ q. is_before q x ≡ false) ks =
    recursion_from_All (λ q. is_before q x ≡ false) ks (All-permutation (λ q. is_before q x ≡ false) rest ks all
    (All-tail (λ q. is_before q x ≡ false) x rest (All-permutation (λ q. is_before q x ≡ false) made (x ∷ rest) perm least))) in
    let other : AllByRecursion (λ q. eq_by_cmp pair_cmp x q ≡ false) ks =
    recursion_from_All (λ q. eq_by_cmp pair_cmp x q ≡ false) ks (All-permutation (λ q. eq_by_cmp pair_cmp x q ≡ false) rest ks all
    (All-from_recursion (λ q. eq_by_cmp pair_cmp x q ≡ false) rest (IsDistinct-head (eq_by_cmp pair_cmp) x rest now))) in
    let rises : IsRising is_before (x ∷ ks) =
    ((λ q i. behind x q (every_in (λ q. is_before q x ≡ false) ks later q i) (every_in (λ q. eq_by_cmp pair_cmp x q ≡ false) ks other q i)), rises_of ks (set_ordered rest)) in
    let same : set_of (x ∷ ks) ≡ set_of made = same_sets (x ∷ ks) made (λ q.
    ap (λ b. eq_by_cmp pair_cmp q x || b) (in_set q rest) ∙ sym (list_any-IsPermutation (eq_by_cmp pair_cmp q) made (x ∷ rest) perm)) in
    sym (ordered_of (x ∷ ks) rises ∙ ap keys same)

-- what a step of a merge gives is the first pair in order, and leaves each pair once
pub first_given : (old : List (List Pair)) (given : Option Pair) (new : List (List Pair)) → AreEachOnce (all_pairs old) → Gives old given new
    → MatchOption given ((in_order old ≡ []) × (in_order new ≡ [])) (λ pair. in_order old ≡ pair ∷ in_order new)
first_given old None new once gives =
    let none : in_order old ≡ [] = ap (λ ps. keys (set_of ps)) gives.0 ∙ sym (ordered_of [] tt) in
    (none, ap in_order gives.1 ∙ none)
first_given old (Some x) new once gives = first_in_order (all_pairs old) (all_pairs new) x once gives.1 gives.0

pub once_left : (old : List (List Pair)) (given : Option Pair) (new : List (List Pair)) → AreEachOnce (all_pairs old) → Gives old given new
    → AreEachOnce (all_pairs new)
once_left old None new once gives = subst (λ runs. AreEachOnce (all_pairs runs)) (sym gives.1) once
once_left old (Some x) new once gives =
    IsDistinct-tail (eq_by_cmp pair_cmp) x (all_pairs new)
    (IsDistinct-IsPermutation (eq_by_cmp pair_cmp) (eq_by_cmp_equiv pairs_total).symm (all_pairs old) (x ∷ all_pairs new) gives.1 once)

pub once_after : (result : Result (Option Pair) Fault) (old new : MergedValue) → AreEachOnce (all_pairs (all_runs old.runs))
    → IfOk result (λ given. Gives (all_runs old.runs) given (all_runs new.runs)) → OnErr result (new ≡ old) → AreEachOnce (all_pairs (all_runs new.runs))
once_after (Ok given) old new once gives same = once_left (all_runs old.runs) given (all_runs new.runs) once gives
once_after (Err fault) old new once gives same = subst (λ (merged : MergedValue). AreEachOnce (all_pairs (all_runs merged.runs))) (sym same) once
