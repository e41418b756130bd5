-- The pairs of all pages, put in order, are the pairs at rest.
use Rattle.std.proofs.Common.{◌≡◌, ℕ, zero, suc, add-zero, zero-add, ◌+◌, ◌<◌, Bool, true, false, List, [], ◌∷◌, ◌++◌, append_assoc, Option, Some, None, refl}
use Rattle.std.proofs.Common.{sym, ap, ◌∙◌, arith, subst}
use Rattle.std.specs.Prelude.{filter_map, flat_map, map, T, IsPermutation}
use Rattle.std.specs.declared.cmp.Ordering.{Ordering}
use Rattle.std.specs.declared.cmp.Ordering.TheVariants.{Less, Equal, Greater}
use Rattle.std.specs.Ordering.{eq_by_cmp, is_eq, is_lt, ordering_reverse}
use Rattle.std.specs.List.{list_any, range_with_len, cons_option, IsDistinct, AllByRecursion, All}
use Rattle.std.specs.List.Sorted.{IsSortedBy}
use Rattle.std.specs.FinMap.{keys}
use Rattle.std.specs.FinMap.Entries.{is_sorted, below_all}
use Rattle.std.proofs.lemmas.Bool.{or_left, or_right, and_from, false≢true, false_from_ne_true}
use native.Mathlib.Numerals.{unary_clauses}
use Rattle.std.proofs.lemmas.Bool.Decides.{nat_tests}
use Rattle.std.proofs.lemmas.Cmp.{eq_by_cmp_equiv}
use Rattle.std.proofs.lemmas.Map.Keys.{IsDistinct-IsPermutation}
use Rattle.std.proofs.lemmas.List.Elements.{filter_map-append, recursion_from_All}
use Rattle.std.proofs.lemmas.List.Sorted.{sorted_far, ranks_by, list_any-IsPermutation}
use Rattle.keybytes.specs.Keys.{KeySpecValue}
use Rattle.keybytes.specs.declared.cell.Cell.{Cell}
use Rattle.keybytes.specs.declared.rid.Rid.{Rid}
use Rattle.heap_log.specs.declared.record.LogRec.{LogRec}
use Rattle.keybytes.specs.Rids.{same_rid}
use Rattle.heap_log.specs.Standing.{live_at}
use Rattle.heap_table.specs.Pages.{rid_at, slots_written, pages_written}
use Rattle.keybytes.specs.declared.pair.Pair.{Pair}
use Rattle.keybytes.specs.Pairs.{pair_cmp, set_of}
use Rattle.heap_table.specs.TablePairs.{pair_at, rids_on, pairs_on, pairs_from, written_rids, pairs_at_rest}
use Rattle.keybytes.proofs.PairSets.{pairs_total, marked, tied_pairs, is_in, items_are}
use Rattle.keybytes.proofs.SameRids.{same_rid-refl}
use Rattle.std.proofs.lemmas.List.Folds.{list_any-append}
use Rattle.heap_table.proofs.LogRows.{rows_are_inside}
use Rattle.heap_table.proofs.TablePairs.{own_pair, all_listed, row_written, listed_on}

-- the RIDs of so many pages from that one on
abbrev pub rids_from : List LogRec → ℕ → ℕ → List Rid
rids_from log first count = flat_map (rids_on log) (range_with_len first count)

pub pairs_of_rids : (spec : KeySpecValue) (log : List LogRec) (first count : ℕ)
    → pairs_from spec log first count ≡ filter_map (pair_at spec log) (rids_from log first count)
pairs_of_rids spec log first zero = refl
pairs_of_rids spec log first (suc count) =
    ap (λ ps. pairs_on spec log first ++ ps) (pairs_of_rids spec log (first + 1) count)
    ∙ sym (filter_map-append (pair_at spec log) (rids_on log first) (rids_from log (first + 1) count))

-- what holds of each element of both holds of each of the whole
pub all_append : {X : Type 0} (P : X → Type 0) (xs ys : List X) → AllByRecursion P xs → AllByRecursion P ys → AllByRecursion P (xs ++ ys)
all_append P [] ys a b = b
all_append P (x ∷ xs) ys a b = (a.0, all_append P xs ys a.1 b)

pub all_weaker : {X : Type 0} (P Q : X → Type 0) → ((x : X) → P x → Q x) → (xs : List X) → AllByRecursion P xs → AllByRecursion Q xs
all_weaker P Q f [] a = tt
all_weaker P Q f (x ∷ xs) a = (f x a.0, all_weaker P Q f xs a.1)

pub distinct_append : {X : Type 0} (e : X → X → Bool) (xs ys : List X) → IsDistinct e xs → IsDistinct e ys
    → AllByRecursion (λ x. AllByRecursion (λ y. e x y ≡ false) ys) xs → IsDistinct e (xs ++ ys)
unfolding IsDistinct
distinct_append e [] ys a b apart = b
distinct_append e (x ∷ xs) ys a b apart = (all_append (λ y. e x y ≡ false) xs ys a.0 apart.0, distinct_append e xs ys a.1 b apart.1)

pages_apart : (a b : Rid) → a.page < b.page → same_rid a b ≡ false
pages_apart a b less = grind (arith, nat_tests, less)

slots_apart : (page s t : ℕ) → s < t → same_rid (rid_at page s) (rid_at page t) ≡ false
slots_apart page s t less = grind (arith, nat_tests, less)

-- the RIDs of one page have later slots
later_slots : (page slot first count : ℕ) → slot < first
    → AllByRecursion (λ r. same_rid (rid_at page slot) r ≡ false) (map (rid_at page) (range_with_len first count))
later_slots page slot first zero less = tt
later_slots page slot first (suc count) less = (slots_apart page slot first less, later_slots page slot (first + 1) count (omega arith))

slots_distinct : (page first count : ℕ) → IsDistinct same_rid (map (rid_at page) (range_with_len first count))
unfolding IsDistinct
slots_distinct page first zero = tt
slots_distinct page first (suc count) = (later_slots page first (first + 1) count (omega arith), slots_distinct page (first + 1) count)

pub on_page : (page first count : ℕ) → AllByRecursion (λ r. r.page ≡ page) (map (rid_at page) (range_with_len first count))
on_page page first zero = tt
on_page page first (suc count) = (refl, on_page page (first + 1) count)

later_pages : (log : List LogRec) (page first count : ℕ) → page < first → AllByRecursion (λ r. page < r.page) (rids_from log first count)
later_pages log page first zero less = tt
later_pages log page first (suc count) less =
    all_append (λ r. page < r.page) (rids_on log first) (rids_from log (first + 1) count)
    (all_weaker (λ r. r.page ≡ first) (λ r. page < r.page) (λ r e. omega (arith, e)) (rids_on log first) (on_page first 0 (slots_written log first)))
    (later_pages log page (first + 1) count (omega arith))

rids_distinct : (log : List LogRec) (first count : ℕ) → IsDistinct same_rid (rids_from log first count)
unfolding IsDistinct
rids_distinct log first zero = tt
rids_distinct log first (suc count) =
    let rest : List Rid = rids_from log (first + 1) count in
    let later : AllByRecursion (λ r. first < r.page) rest = later_pages log first (first + 1) count (omega arith) in
    distinct_append same_rid (rids_on log first) rest (slots_distinct first 0 (slots_written log first)) (rids_distinct log (first + 1) count)
    (all_weaker (λ r. r.page ≡ first) (λ r. AllByRecursion (λ y. same_rid r y ≡ false) rest)
    (λ r e. all_weaker (λ y. first < y.page) (λ y. same_rid r y ≡ false) (λ y less. pages_apart r y (omega (arith, e, less))) rest later)
    (rids_on log first) (on_page first 0 (slots_written log first)))

one_apart :
    (spec : KeySpecValue) (log : List LogRec) (p : Pair) (r : Rid) (rs : List Rid) (o : Option Pair) → pair_at spec log r ≡ o → same_rid p.rid r ≡ false
    → AllByRecursion (λ y. eq_by_cmp pair_cmp p y ≡ false) (filter_map (pair_at spec log) rs)
    → AllByRecursion (λ y. eq_by_cmp pair_cmp p y ≡ false) (cons_option o (filter_map (pair_at spec log) rs))
one_apart spec log p r rs None is here rest = rest
one_apart spec log p r rs (Some q) is here rest = (
  false_from_ne_true (eq_by_cmp pair_cmp p q) (λ e.
      let same : p.rid ≡ r = ap (λ (x : Pair). x.rid) (tied_pairs p q e) ∙ own_pair spec r (live_at log r) q is in
      false≢true (sym here ∙ ap (λ x. same_rid x r) same ∙ same_rid-refl r)),
  rest,
)

-- a pair at a RID differs from those at other RIDs
pairs_apart :
    (spec : KeySpecValue) (log : List LogRec) (p : Pair) (rids : List Rid) → AllByRecursion (λ r. same_rid p.rid r ≡ false) rids
    → AllByRecursion (λ y. eq_by_cmp pair_cmp p y ≡ false) (filter_map (pair_at spec log) rids)
pairs_apart spec log p [] apart = tt
pairs_apart spec log p (r ∷ rs) apart = one_apart spec log p r rs (pair_at spec log r) refl apart.0 (pairs_apart spec log p rs apart.1)

one_distinct :
    (spec : KeySpecValue) (log : List LogRec) (r : Rid) (rs : List Rid) (o : Option Pair) → pair_at spec log r ≡ o
    → AllByRecursion (λ y. same_rid r y ≡ false) rs
    → IsDistinct (eq_by_cmp pair_cmp) (filter_map (pair_at spec log) rs) → IsDistinct (eq_by_cmp pair_cmp) (cons_option o (filter_map (pair_at spec log) rs))
unfolding IsDistinct
one_distinct spec log r rs None is apart rest = rest
one_distinct spec log r rs (Some p) is apart rest =
    (pairs_apart spec log p rs (subst (λ (x : Rid). AllByRecursion (λ y. same_rid x y ≡ false) rs) (sym (own_pair spec r (live_at log r) p is)) apart), rest)

pairs_distinct : (spec : KeySpecValue) (log : List LogRec) (rids : List Rid) → IsDistinct same_rid rids
    → IsDistinct (eq_by_cmp pair_cmp) (filter_map (pair_at spec log) rids)
unfolding IsDistinct
pairs_distinct spec log [] apart = tt
pairs_distinct spec log (r ∷ rs) apart = one_distinct spec log r rs (pair_at spec log r) refl apart.0 (pairs_distinct spec log rs apart.1)

listed_from : (log : List LogRec) (rid : Rid) (first count k : ℕ) → k < count → first + k ≡ rid.page → rid.slot < slots_written log rid.page
    → list_any (λ r. same_rid r rid) (rids_from log first count) ≡ true
listed_from log rid first zero k less page slot = absurd (omega arith)
listed_from log rid first (suc count) zero less page slot =
    list_any-append (λ r. same_rid r rid) (rids_on log first) (rids_from log (first + 1) count)
    ∙ or_left (list_any (λ r. same_rid r rid) (rids_on log first)) (list_any (λ r. same_rid r rid) (rids_from log (first + 1) count))
    (ap (λ p. list_any (λ r. same_rid r rid) (rids_on log p)) (sym (add-zero first) ∙ page) ∙ listed_on log rid slot)
listed_from log rid first (suc count) (suc k) less page slot =
    list_any-append (λ r. same_rid r rid) (rids_on log first) (rids_from log (first + 1) count)
    ∙ or_right (list_any (λ r. same_rid r rid) (rids_on log first)) (list_any (λ r. same_rid r rid) (rids_from log (first + 1) count))
    (listed_from log rid (first + 1) count k (omega arith) (omega (arith, page)) slot)

listed_all : (log : List LogRec) (rid : Rid) (row : List Cell) → live_at log rid ≡ Some row
    → list_any (λ r. same_rid r rid) (rids_from log 0 (pages_written log)) ≡ true
listed_all log rid row live =
    let inside = rows_are_inside log in
    listed_from log rid 0 (pages_written log) rid.page (inside.page rid row live) (zero-add rid.page) (inside.slot rid row live)

-- a list in order with no pair twice rises
by_order_of : (o : Ordering) → is_lt (ordering_reverse o) ≡ false → is_eq o ≡ false → is_lt o ≡ true
by_order_of Less a b = refl
by_order_of Equal a b = absurd (false≢true (sym b))
by_order_of Greater a b = absurd (false≢true (sym a))

rises_above : (x : Pair) (ys : List Pair) → AllByRecursion (λ y. is_lt (pair_cmp y x) ≡ false) ys → AllByRecursion (λ y. eq_by_cmp pair_cmp x y ≡ false) ys
    → below_all pair_cmp x (marked ys) ≡ true
rises_above x [] a b = refl
rises_above x (y ∷ ys) a b =
    and_from (is_lt (pair_cmp x y)) (below_all pair_cmp x (marked ys))
    (by_order_of (pair_cmp x y) (ap is_lt (sym (pairs_total.antisymm y x)) ∙ a.0) b.0) (rises_above x ys a.1 b.1)

abbrev pub InOrder : List Pair → Type 0
InOrder ps = IsSortedBy (λ x y. is_lt (pair_cmp x y)) ps

order_tail : (x : Pair) (ys : List Pair) → InOrder (x ∷ ys) → InOrder ys
order_tail x ys h k d low high = let next = h (suc k) d (omega arith) (omega arith) in simp unary_clauses (simp unary_clauses at next)

above_first : (x : Pair) (ys : List Pair) → InOrder (x ∷ ys) → All (λ y. is_lt (pair_cmp y x) ≡ false) ys
above_first x ys h k d less = sorted_far (λ a b. is_lt (pair_cmp a b)) (ranks_by pairs_total (λ p. p)) (x ∷ ys) h 0 (suc k) d (omega arith) (omega arith)

rises : (ys : List Pair) → InOrder ys → IsDistinct (eq_by_cmp pair_cmp) ys → is_sorted pair_cmp (marked ys) ≡ true
unfolding IsDistinct
rises [] h apart = refl
rises (x ∷ ys) h apart =
    and_from (below_all pair_cmp x (marked ys)) (is_sorted pair_cmp (marked ys))
    (rises_above x ys (recursion_from_All (λ y. is_lt (pair_cmp y x) ≡ false) ys (above_first x ys h)) apart.0)
    (rises ys (order_tail x ys h) apart.1)

-- pairs of which no two are the same, put in order, are their set in order
pub sorted_set :
    (made ys : List Pair) → IsDistinct (eq_by_cmp pair_cmp) made → IsPermutation made ys → InOrder ys → ys ≡ keys (set_of made)
sorted_set made ys apart moved sorted =
    let apart_now : IsDistinct (eq_by_cmp pair_cmp) ys =
    IsDistinct-IsPermutation (eq_by_cmp pair_cmp) (eq_by_cmp_equiv pairs_total).symm made ys moved apart in
    items_are ys made (subst T (sym (rises ys sorted apart_now)) tt) (λ q. sym (list_any-IsPermutation (eq_by_cmp pair_cmp q) made ys moved))

-- no pair of a page stands there twice
pub page_distinct : (spec : KeySpecValue) (log : List LogRec) (page : ℕ) → IsDistinct (eq_by_cmp pair_cmp) (pairs_on spec log page)
page_distinct spec log page = pairs_distinct spec log (rids_on log page) (slots_distinct page 0 (slots_written log page))

-- the pairs of all pages, put in order, are those at rest
pub in_order :
    (spec : KeySpecValue) (log : List LogRec) (made ys : List Pair) → made ≡ pairs_from spec log 0 (pages_written log)
    → IsPermutation made ys → InOrder ys → ys ≡ pairs_at_rest spec log
in_order spec log made ys is moved sorted =
    let rids : List Rid = rids_from log 0 (pages_written log) in
    let made_is : made ≡ filter_map (pair_at spec log) rids = is ∙ pairs_of_rids spec log 0 (pages_written log) in
    let apart : IsDistinct (eq_by_cmp pair_cmp) made =
    subst (IsDistinct (eq_by_cmp pair_cmp)) (sym made_is) (pairs_distinct spec log rids (rids_distinct log 0 (pages_written log))) in
    let apart_now : IsDistinct (eq_by_cmp pair_cmp) ys =
    IsDistinct-IsPermutation (eq_by_cmp pair_cmp) (eq_by_cmp_equiv pairs_total).symm made ys moved apart in
    items_are ys (filter_map (pair_at spec log) (written_rids log)) (subst T (sym (rises ys sorted apart_now)) tt) (λ q.
    sym (list_any-IsPermutation (eq_by_cmp pair_cmp q) made ys moved)
    ∙ ap (is_in q) made_is ∙ all_listed spec log rids (listed_all log) q
    ∙ sym (all_listed spec log (written_rids log) (row_written log) q))

-- the pairs of pages one after another
pub pairs_joined : (spec : KeySpecValue) (log : List LogRec) (first n m : ℕ)
    → pairs_from spec log first (n + m) ≡ pairs_from spec log first n ++ pairs_from spec log (first + n) m
pairs_joined spec log first zero m = let same : zero + m ≡ m = zero-add m in let here : first + zero ≡ first = add-zero first in rw (same, here) refl
pairs_joined spec log first (suc n) m =
    let more : suc n + m ≡ suc (n + m) = omega arith in
    let on : first + suc n ≡ first + 1 + n = omega arith in
    rw (more, on) (ap (λ ps. pairs_on spec log first ++ ps) (pairs_joined spec log (first + 1) n m)
    ∙ sym (append_assoc (pairs_on spec log first) (pairs_from spec log (first + 1) n) (pairs_from spec log (first + 1 + n) m)))
