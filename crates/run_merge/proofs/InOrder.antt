-- What all steps together give.
use Rattle.std.proofs.Common.{◌≡◌, ◌-◌, false, List, [], ◌∷◌, ◌++◌, All, length, get_or, arith}
use Rattle.std.specs.List.Sorted.{IsSorted, IsPermutation}
use Rattle.std.proofs.lemmas.List.Kept.{IsSortedBy-push}
use Rattle.std.proofs.lemmas.List.Elements.{All-head, All-tail, All-push}
use Rattle.std.proofs.lemmas.List.Sorted.{All-permutation}
use Rattle.keybytes.specs.Pairs.{pair_cmp}
use Rattle.run_merge.specs.Leading.{is_before}
use Rattle.run_merge.specs.Merging.{IsLeast}
use Rattle.keybytes.specs.declared.pair.Pair.{Pair}

-- what no pair was before, no pair is before that is left
least_left : (left rest : List Pair) (x y : Pair) → IsPermutation left (x ∷ rest) → IsLeast left y → IsLeast (x ∷ rest) y
least_left left rest x y perm least = All-permutation (λ other. is_before other y ≡ false) left (x ∷ rest) perm least

-- what was given and one pair more stay before all that is left
pub before_more : (done left rest : List Pair) (x : Pair) → IsPermutation left (x ∷ rest) → IsLeast left x → All (λ pair. IsLeast left pair) done
    → All (λ pair. IsLeast rest pair) (done ++ x ∷ [])
before_more done left rest x perm least all =
    let tail : (y : Pair) → IsLeast left y → IsLeast rest y = λ y h. All-tail (λ other. is_before other y ≡ false) x rest (least_left left rest x y perm h) in
    All-push (λ pair. IsLeast rest pair) done x (λ k d lt. tail (get_or done k d) (all k d lt)) (tail x least)

-- what was given stays in order with one pair more
pub order_more : (done left rest : List Pair) (x : Pair) → IsPermutation left (x ∷ rest) → All (λ pair. IsLeast left pair) done → IsSorted pair_cmp done
    → IsSorted pair_cmp (done ++ x ∷ [])
order_more done left rest x perm all order =
    IsSortedBy-push is_before done x order (λ d some.
    let last = get_or done (length done - 1) d in
    All-head (λ other. is_before other last ≡ false) x rest (least_left left rest x last perm (all (length done - 1) d (omega (arith, some)))))
