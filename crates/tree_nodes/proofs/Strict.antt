-- The order of pairs is strict.
use Rattle.std.proofs.Common.{◌≡◌, ℕ, true, false, List, [], ◌∷◌, arith, refl, sym, ap}
use Rattle.std.proofs.lemmas.Bool.{false≢true, true≢false}
use Rattle.std.specs.declared.cmp.Ordering.{Ordering}
use Rattle.std.specs.declared.cmp.Ordering.TheVariants.{Less, Equal, Greater}
use Rattle.std.specs.Ordering.{nat_cmp, is_lt, is_eq, ordering_then, ordering_reverse}
use Rattle.std.specs.Cmp.{IsTotalOrder, tied_itself}
use Rattle.std.specs.FinMap.{IsAntisymmetric}
use Rattle.std.specs.Cmp.Lexicographic.{slice_cmp}
use Rattle.keybytes.specs.declared.pair.Pair.{Pair}
use Rattle.keybytes.proofs.PairSets.{pairs_total, exact_of_pairs}
use Rattle.tree_nodes.specs.Lists.{IsStrict}
use Rattle.tree_nodes.specs.Order.{is_before}

less : (o : Ordering) → is_lt o ≡ true → o ≡ Less
less Less e = refl
less Equal e = absurd (false≢true e)
less Greater e = absurd (false≢true e)

neither : (o p : Ordering) → is_lt o ≡ false → is_lt p ≡ false → o ≡ ordering_reverse p → o ≡ Equal
neither Less p e f g = absurd (true≢false e)
neither Equal p e f g = refl
neither Greater Less e f g = absurd (true≢false f)
neither Greater Equal e f g = absurd (true≢false (sym (ap is_eq g)))
neither Greater Greater e f g = absurd (true≢false (sym (ap is_lt g)))

strict_by : {X : Type 0} {R : X → X → Ordering} → IsTotalOrder R → IsAntisymmetric R → IsStrict (λ a b. is_lt (R a b))
strict_by {X} {R} o same = record {
  not_itself = λ a. ap is_lt (tied_itself o a);
  onward = λ a b c p q. ap is_lt (o.trans a b c (less _ p) (less _ q));
  tied = λ a b p q. same a b (neither _ _ p q (o.antisymm a b));
}

pub before-strict : IsStrict is_before
unfolding is_before
before-strict = strict_by pairs_total exact_of_pairs

pub pair_same : (p q : Pair) → p.key ≡ q.key → p.rid ≡ q.rid → p ≡ q
pair_same p q key rid = λ i. record { key = key i; rid = rid i }

least_key : (key : List ℕ) → is_lt (slice_cmp nat_cmp key []) ≡ false
least_key [] = refl
least_key (x ∷ key) = refl

pub least_number : (n : ℕ) → is_lt (nat_cmp n 0) ≡ false
least_number n = grind (arith)

pub then_least : (r s : Ordering) → is_lt r ≡ false → is_lt s ≡ false → is_lt (ordering_then r s) ≡ false
then_least Less s h k = h
then_least Equal s h k = k
then_least Greater s h k = refl

-- nothing is before the pair of the empty key and the first RID
pub least_pair : (q : Pair) → is_before q (record { key = []; rid = record { page = 0; slot = 0 } }) ≡ false
unfolding is_before
least_pair q = then_least _ _ (least_key q.key) (then_least _ _ (least_number q.rid.page) (least_number q.rid.slot))
