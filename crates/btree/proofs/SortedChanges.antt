-- Changes that a sort by their pairs left are in order.
use Rattle.std.proofs.Common.{◌≡◌, ℕ, zero, suc, ◌+◌, ◌-◌, ◌≤◌, ◌<◌, false, List, length, take, get_or, sym, subst, arith}
use Rattle.std.proofs.lemmas.List.{get_or_default}
use Rattle.std.proofs.Math.Seq.{take-length}
use Rattle.std.specs.List.Sorted.{IsSortedBy}
use Rattle.std.specs.Ordering.{is_lt}
use Rattle.keybytes.specs.Pairs.{pair_cmp}
use Rattle.tree_nodes.specs.Order.{is_before}
use Rattle.btree.specs.declared.change.Change.{Change}
use Rattle.btree.specs.Changes.{AreInOrder}
use Rattle.btree.proofs.Ordered.{order_one, order_more}
use Rattle.btree.proofs.Turns.{no_change}

-- each isn't before the one in front of it
apart : (cs : List Change) → IsSortedBy (λ a b. is_lt (pair_cmp a.pair b.pair)) cs → (n : ℕ) → n + 1 < length cs
    → is_before (get_or cs (n + 1) no_change).pair (get_or cs n no_change).pair ≡ false
unfolding is_before
apart cs s n h = s n no_change (omega arith) h

-- the first so many are in order
front_in_order : (n : ℕ) (cs : List Change) → IsSortedBy (λ a b. is_lt (pair_cmp a.pair b.pair)) cs → n ≤ length cs → AreInOrder (take n cs)
front_in_order zero cs s h = tt
front_in_order (suc zero) cs s h = order_one cs
front_in_order (suc (suc n)) cs s h =
    let last : Change = get_or cs n no_change in
    let next : Change = get_or cs (n + 1) no_change in
    let Last : ℕ → Type 0 = λ k. last ≡ get_or cs k last in
    let Next : ℕ → Type 0 = λ k. next ≡ get_or cs k next in
    let Front : ℕ → Type 0 = λ k. AreInOrder (take k cs) in
    let back : n ≡ suc n - 1 = omega arith in
    let on : n + 1 ≡ suc n = omega arith in
    let whole : suc n + 1 ≡ suc (suc n) = omega arith in
    let at_last : last ≡ get_or cs (suc n - 1) last = subst Last back (get_or_default cs n no_change last (omega arith)) in
    let at_next : next ≡ get_or cs (suc n) next = subst Next on (get_or_default cs (n + 1) no_change next (omega arith)) in
    let before : AreInOrder (take (suc n) cs) = front_in_order (suc n) cs s (omega arith) in
    let fails : is_before next.pair last.pair ≡ false = apart cs s n (omega arith) in
    subst Front whole (order_more (suc n) cs last next (omega arith) (omega arith) at_last at_next fails before)

-- so are all
pub sorted_in_order : (cs : List Change) → IsSortedBy (λ a b. is_lt (pair_cmp a.pair b.pair)) cs → AreInOrder cs
sorted_in_order cs s = subst AreInOrder (take-length cs) (front_in_order (length cs) cs s (omega arith))
