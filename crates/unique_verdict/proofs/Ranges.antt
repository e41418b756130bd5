-- The keys between a key and the same with a byte 0 behind it.
use Rattle.std.proofs.Common.{◌≡◌, ℕ, Bool, false, List, [], ◌∷◌, ◌++◌, map, refl, ap, ◌∙◌, inl, inr}
use Rattle.std.specs.Prelude.{not, ◌&&◌}
use Rattle.std.specs.List.{filter}
use Rattle.std.specs.declared.cmp.Ordering.{Ordering}
use Rattle.std.specs.declared.cmp.Ordering.TheVariants.{Less, Equal, Greater}
use Rattle.std.specs.Ordering.{nat_cmp, is_lt, is_eq, ordering_then}
use Rattle.std.specs.Cmp.Lexicographic.{slice_cmp}
use Rattle.std.proofs.lemmas.Bool.{cases_Bool}
use Rattle.keybytes.specs.declared.pair.Pair.{Pair}
use Rattle.tree_nodes.proofs.Strict.{least_number, then_least}
use Rattle.btree.specs.TreeValue.{is_key, is_less, rids_of, pairs_between}

least_list : (xs : List ℕ) → is_lt (slice_cmp nat_cmp xs []) ≡ false
least_list [] = refl
least_list (x ∷ xs) = refl

step : (o s t : Ordering) → (not (is_lt s) && is_lt t) ≡ is_eq s → (not (is_lt (ordering_then o s)) && is_lt (ordering_then o t)) ≡ is_eq (ordering_then o s)
step Less s t h = refl
step Equal s t h = h
step Greater s t h = refl

between_one : (key other : List ℕ) → (not (is_less other key) && is_less other (key ++ 0 ∷ [])) ≡ is_eq (slice_cmp nat_cmp other key)
between_one [] [] = refl
between_one [] (x ∷ xs) = then_least _ _ (least_number x) (least_list xs)
between_one (y ∷ ys) [] = refl
between_one (y ∷ ys) (x ∷ xs) = step (nat_cmp x y) (slice_cmp nat_cmp xs ys) (slice_cmp nat_cmp xs (ys ++ 0 ∷ [])) (between_one ys xs)

same_filter : (f g : Pair → Bool) (ps : List Pair) → ((p : Pair) → f p ≡ g p) → filter f ps ≡ filter g ps
same_filter f g [] h = refl
same_filter f g (p ∷ ps) h = elim (cases_Bool (g p)) [
  | inl e ↦ rw (h p, e) (ap (λ qs. p ∷ qs) (same_filter f g ps h))
  | inr e ↦ rw (h p, e) (same_filter f g ps h)
]

pub rids_between : (key end : List ℕ) (pairs : List Pair) → end ≡ key ++ 0 ∷ [] → map (λ p. p.rid) (pairs_between key end pairs) ≡ rids_of key pairs
rids_between key end pairs is =
    ap (λ (e : List ℕ). map (λ p. p.rid) (pairs_between key e pairs)) is
    ∙ ap (map (λ p. p.rid)) (same_filter (λ p. not (is_less p.key key) && is_less p.key (key ++ 0 ∷ [])) (is_key key) pairs (λ p. between_one key p.key))
