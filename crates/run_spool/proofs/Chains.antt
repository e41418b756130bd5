-- Pages in a chain.
use Rattle.std.proofs.Common.{◌≡◌, ℕ, ◌+◌, ◌-◌, ◌<◌, suc, List, [], ◌∷◌, ◌++◌, length, get_or, set, take, drop, sym, ap, ◌∙◌, arith}
use Rattle.std.proofs.Math.Seq.{drop-cons}
use Rattle.std.proofs.lemmas.List.{set_split, drop_all, take-append-drop, length-append}
use Rattle.std.proofs.lemmas.List.Concat.{flat_map-append}
use Rattle.run_spool.specs.Pages.{PageValue, no_page}
use Rattle.run_spool.specs.Runs.{page_pairs, pairs_of, last_of, with_last}

-- what stands behind all but the last
pub drop_last : {A : Type 0} (xs : List A) (n : ℕ) (d : A) → n + 1 ≡ length xs → drop n xs ≡ get_or xs n d ∷ []
drop_last xs n d e =
    let s : suc n ≡ length xs = omega arith in
    drop-cons xs n d (omega arith) ∙ ap (λ (ys : List _). get_or xs n d ∷ ys) (ap (λ (k : ℕ). drop k xs) s ∙ drop_all (length xs) xs (omega arith))

-- another last element
pub set_last : {A : Type 0} (xs : List A) (n : ℕ) (x : A) → n + 1 ≡ length xs → set xs n x ≡ take n xs ++ x ∷ []
set_last xs n x e =
    let s : suc n ≡ length xs = omega arith in
    set_split xs n x (omega arith) ∙ ap (λ (ys : List _). take n xs ++ x ∷ ys) (ap (λ (k : ℕ). drop k xs) s ∙ drop_all (length xs) xs (omega arith))

-- the last page as it was
pub same_last : (xs : List PageValue) → 0 < length xs → with_last xs (last_of xs) ≡ xs
same_last xs some =
    let n = length xs - 1 in
    ap (λ (ys : List PageValue). take n xs ++ ys) (sym (drop_last xs n no_page (omega arith))) ∙ take-append-drop n xs

pub count_append : (a b : List PageValue) → length (pairs_of (a ++ b)) ≡ length (pairs_of a) + length (pairs_of b)
count_append a b = ap length (flat_map-append page_pairs a b) ∙ length-append (pairs_of a) (pairs_of b)

-- the pairs on the first page and on the others
pub count_first : (x : PageValue) (xs : List PageValue) → length (pairs_of (x ∷ xs)) ≡ length x.pairs + length (pairs_of xs)
count_first x xs = length-append x.pairs (pairs_of xs)

pub count_one : (x : PageValue) → length (pairs_of (x ∷ [])) ≡ length x.pairs
count_one x = omega (arith, count_first x [])

-- the pairs on all pages but the last, and on the last
pub count_last : (xs : List PageValue) (n : ℕ) → n + 1 ≡ length xs →
    length (pairs_of xs) ≡ length (pairs_of (take n xs)) + length (get_or xs n no_page).pairs
count_last xs n e =
    let split : xs ≡ take n xs ++ get_or xs n no_page ∷ [] = sym (take-append-drop n xs)
    ∙ ap (λ (ys : List PageValue). take n xs ++ ys) (drop_last xs n no_page e) in
    ap (λ (ys : List PageValue). length (pairs_of ys)) split
    ∙ omega (arith, count_append (take n xs) (get_or xs n no_page ∷ []), count_one (get_or xs n no_page))
