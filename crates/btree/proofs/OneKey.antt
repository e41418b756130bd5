-- Pairs of one key.
use Rattle.std.proofs.Common.{◌≡◌, ℕ, true, false, List, refl, sym, ap, ◌∙◌, subst}
use Rattle.std.proofs.lemmas.Bool.{false≢true, true≢false}
use Rattle.std.specs.declared.cmp.Ordering.{Ordering}
use Rattle.std.specs.declared.cmp.Ordering.TheVariants.{Less, Equal, Greater}
use Rattle.std.specs.Ordering.{nat_cmp, is_lt, is_eq, ordering_then, ordering_reverse}
use Rattle.std.specs.Cmp.{tied_itself}
use Rattle.std.specs.FinSet.{nat_cmp-IsAntisymmetric, slice_cmp-IsAntisymmetric}
use Rattle.std.specs.Cmp.Lexicographic.{slice_cmp, nat_list_cmp_total}
use Rattle.keybytes.specs.declared.pair.Pair.{Pair}
use Rattle.tree_nodes.specs.Order.{is_before}
use Rattle.btree.specs.TreeValue.{is_key}

pub equal : (o : Ordering) → is_eq o ≡ true → o ≡ Equal
equal Less e = absurd (false≢true e)
equal Equal e = refl
equal Greater e = absurd (false≢true e)

pub key_same : (key : List ℕ) (p : Pair) → is_key key p ≡ true → p.key ≡ key
key_same key p e = slice_cmp-IsAntisymmetric nat_cmp-IsAntisymmetric _ _ (equal _ e)

pub has_same : (key : List ℕ) (p : Pair) → p.key ≡ key → is_key key p ≡ true
has_same key p e =
    let P : List ℕ → Type 0 = λ k. is_eq (slice_cmp nat_cmp p.key k) ≡ true in
    subst P e (ap is_eq (tied_itself nat_list_cmp_total p.key))

up_to : (r s : Ordering) → is_lt (ordering_then r s) ≡ true → is_lt r ≡ false → r ≡ Equal
up_to Less s h k = absurd (true≢false k)
up_to Equal s h k = refl
up_to Greater s h k = absurd (false≢true h)

turned : (r s t : Ordering) → is_lt (ordering_then r s) ≡ true → t ≡ ordering_reverse r → is_lt t ≡ false
turned Less s t h e = rw e refl
turned Equal s t h e = rw e refl
turned Greater s t h e = absurd (false≢true h)

-- what stands between two pairs of one key has that key
pub between_key : (a b w : Pair) → is_before a b ≡ true → is_before b w ≡ true → w.key ≡ a.key → b.key ≡ a.key
unfolding is_before
between_key a b w h k e =
    let P : List ℕ → Type 0 = λ l. is_lt (slice_cmp nat_cmp b.key l) ≡ false in
    let back : is_lt (slice_cmp nat_cmp b.key a.key) ≡ false = turned (slice_cmp nat_cmp a.key b.key) _ _ h (nat_list_cmp_total.antisymm b.key a.key) in
    let n : is_lt (slice_cmp nat_cmp b.key w.key) ≡ false = subst P (sym e) back in
    slice_cmp-IsAntisymmetric nat_cmp-IsAntisymmetric b.key w.key (up_to (slice_cmp nat_cmp b.key w.key) _ k n) ∙ e
