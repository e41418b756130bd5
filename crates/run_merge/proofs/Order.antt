-- The order of pairs and of heads is a strict weak order.
use Rattle.std.proofs.Common.{◌≡◌, ℕ, Bool, true, false, refl, List, get_or}
use Rattle.std.specs.Prelude.{Option, Some, None}
use Rattle.std.specs.Cmp.{IsStrictWeakOrder}
use Rattle.std.proofs.lemmas.List.Sorted.{ranks_by}
use Rattle.keybytes.proofs.PairSets.{pairs_total}
use Rattle.keybytes.specs.declared.pair.Pair.{Pair}
use Rattle.run_merge.specs.Leading.{is_before, is_ahead, MayLead}

-- the order of pairs is a strict weak one
pub before_order : IsStrictWeakOrder is_before
before_order = ranks_by pairs_total (λ pair. pair)

-- a test that fails where it passes fails
before_itself : (b : Bool) → (b ≡ true → b ≡ false) → b ≡ false
before_itself true h = h refl
before_itself false h = refl

-- no head is before itself
ahead_itself : (x : Option Pair) → is_ahead x x ≡ false
ahead_itself None = refl
ahead_itself (Some a) = before_itself (is_before a a) (before_order.one_way a a)

-- what holds of pairs holds of heads: not ahead of one that is not ahead is not ahead
ahead_chain : (x y z : Option Pair) → is_ahead x y ≡ false → is_ahead y z ≡ false → is_ahead x z ≡ false
ahead_chain None y z p q = refl
ahead_chain (Some a) None z p q = let bad : ⊥ = cc in absurd bad
ahead_chain (Some a) (Some b) None p q = let bad : ⊥ = cc in absurd bad
ahead_chain (Some a) (Some b) (Some c) p q = before_order.chain a b c p q

-- a head may lead itself
pub leads_itself : (heads : List (Option Pair)) (i : ℕ) → MayLead heads i i
leads_itself heads i = ahead_itself (get_or heads i None)

-- one that may lead another may lead all that this one may lead
pub leads_chain : (heads : List (Option Pair)) (i j k : ℕ) → MayLead heads i j → MayLead heads j k → MayLead heads i k
leads_chain heads i j k p q = ahead_chain (get_or heads k None) (get_or heads j None) (get_or heads i None) q p
