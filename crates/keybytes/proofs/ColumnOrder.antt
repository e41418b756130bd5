-- A set's pairs in order stand in the order of the columns that their keys are made of.
use Rattle.std.proofs.Common.{◌≡◌, ℕ, zero, suc, ◌<◌, Bool, true, false, List, [], ◌∷◌, length, get_or, refl, sym, ap, ◌∙◌, arith}
use Rattle.std.specs.Prelude.{map, T}
use Rattle.std.specs.declared.cmp.Ordering.{Ordering}
use Rattle.std.specs.declared.cmp.Ordering.TheVariants.{Less, Equal, Greater}
use Rattle.std.specs.Ordering.{nat_cmp, ordering_then, is_lt}
use Rattle.std.specs.Cmp.Lexicographic.{slice_cmp}
use Rattle.std.specs.FinSet.{FinSet}
use Rattle.std.specs.FinMap.{keys, entries, entries_sorted}
use Rattle.std.specs.FinMap.Entries.{is_sorted, below_all}
use Rattle.std.proofs.lemmas.Bool.{and_parts, false≢true}
use Rattle.keybytes.specs.Cells.{columns_cmp}
use Rattle.keybytes.specs.Keys.{KeySpecValue, key_of, key_columns, are_key_columns}
use Rattle.keybytes.specs.Pairs.{pair_cmp, IsBefore, AreInColumnOrder}
use Rattle.keybytes.specs.Rids.{rid_cmp}
use Rattle.keybytes.specs.declared.pair.Pair.{Pair}
use Rattle.keybytes.proofs.KeyLaws.{key_of-laws}
use Rattle.keybytes.proofs.PairSets.{marked}

is_less : (o : Ordering) → is_lt o ≡ true → o ≡ Less
is_less Less e = refl
is_less Equal e = absurd (false≢true e)
is_less Greater e = absurd (false≢true e)

-- each pair is below those behind it
first_below : (p : Pair) (ps : List Pair) → below_all pair_cmp p (marked ps) ≡ true → (j : ℕ) (d : Pair) → j < length ps
    → is_lt (pair_cmp p (get_or ps j d)) ≡ true
first_below p [] e j d less = absurd (omega (arith, less))
first_below p (q ∷ qs) e zero d less = (and_parts (is_lt (pair_cmp p q)) (below_all pair_cmp p (marked qs)) e).0
first_below p (q ∷ qs) e (suc j) d less = first_below p qs (and_parts (is_lt (pair_cmp p q)) (below_all pair_cmp p (marked qs)) e).1 j d (omega (arith, less))

all_below : (ps : List Pair) → is_sorted pair_cmp (marked ps) ≡ true → (i j : ℕ) (d : Pair) → i < j → j < length ps
    → is_lt (pair_cmp (get_or ps i d) (get_or ps j d)) ≡ true
all_below [] e i j d less inside = absurd (omega (arith, inside))
all_below (p ∷ ps) e i zero d less inside = absurd (omega (arith, less))
all_below (p ∷ ps) e zero (suc j) d less inside =
    first_below p ps (and_parts (below_all pair_cmp p (marked ps)) (is_sorted pair_cmp (marked ps)) e).0 j d (omega (arith, inside))
all_below (p ∷ ps) e (suc i) (suc j) d less inside =
    all_below ps (and_parts (below_all pair_cmp p (marked ps)) (is_sorted pair_cmp (marked ps)) e).1 i j d (omega (arith, less)) (omega (arith, inside))

-- a pair below another has the lesser columns, or the same and the lesser RID
by_columns : (spec : KeySpecValue) (p q : Pair) → are_key_columns spec.kinds spec.columns ≡ true → is_lt (pair_cmp p q) ≡ true → IsBefore spec p q
by_columns spec p q held less = λ a b is_a is_b key_a key_b.
    let order : slice_cmp nat_cmp p.key q.key ≡ columns_cmp spec.columns (key_columns spec a) (key_columns spec b) =
    ap (λ k. slice_cmp nat_cmp k q.key) (sym key_a) ∙ ap (λ k. slice_cmp nat_cmp (key_of spec a) k) (sym key_b) ∙ (key_of-laws spec a held is_a).order b is_b in
    ap (λ o. ordering_then o (rid_cmp p.rid q.rid)) (sym order) ∙ is_less (pair_cmp p q) less

marked_again : (es : List (Pair × Unit {0})) → marked (map (λ e. e.0) es) ≡ es
marked_again [] = refl
marked_again (e ∷ es) = ap (λ xs. e ∷ xs) (marked_again es)

holds : (b : Bool) → T b → b ≡ true
holds true t = refl
holds false t = absurd t

pub column_order : (spec : KeySpecValue) (pairs : FinSet pair_cmp) → are_key_columns spec.kinds spec.columns ≡ true → AreInColumnOrder spec (keys pairs)
column_order spec pairs held = λ i j d less inside.
    let sorted : is_sorted pair_cmp (marked (keys pairs)) ≡ true =
    ap (is_sorted pair_cmp) (marked_again (entries pairs)) ∙ holds (is_sorted pair_cmp (entries pairs)) (entries_sorted pairs) in
    by_columns spec (get_or (keys pairs) i d) (get_or (keys pairs) j d) held (all_below (keys pairs) sorted i j d less inside)
