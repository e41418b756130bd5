-- Pairs with the heads of their keys beside them.
use Rattle.std.proofs.Common.{◌≡◌, ℕ, zero, suc, ◌<◌, List, [], ◌∷◌, length, take, drop, get_or, insert, remove, ◌+◌, refl, ap, sym, subst, arith}
use Rattle.std.proofs.lemmas.List.{get_or_default}
use Rattle.keybytes.specs.declared.pair.Pair.{Pair}
use Rattle.tree_nodes.specs.Heads.{IsHead, AreBefore, AreBehind, AreHeads}
use Rattle.tree_nodes.specs.Order.{PairsRise}
use Rattle.tree_nodes.proofs.Heads.{lesser_more, greater_end}

pub heads_length : (numbers : List ℕ) (pairs : List Pair) → AreHeads numbers pairs → length numbers ≡ length pairs
heads_length [] [] h = refl
heads_length [] (pair ∷ pairs) h = absurd h
heads_length (number ∷ numbers) [] h = absurd h
heads_length (number ∷ numbers) (pair ∷ pairs) h = ap suc (heads_length numbers pairs h.1)

pub heads_at : (numbers : List ℕ) (pairs : List Pair) (at : ℕ) (d : Pair) (e : ℕ) → AreHeads numbers pairs → at < length pairs → IsHead (get_or pairs at d).key (get_or numbers at e)
heads_at [] [] at d e h within = absurd (omega (arith, within))
heads_at [] (pair ∷ pairs) at d e h within = absurd h
heads_at (number ∷ numbers) [] at d e h within = absurd h
heads_at (number ∷ numbers) (pair ∷ pairs) zero d e h within = h.0
heads_at (number ∷ numbers) (pair ∷ pairs) (suc at) d e h within = heads_at numbers pairs at d e h.1 (omega (arith, within))

pub heads_insert : (numbers : List ℕ) (pairs : List Pair) (at : ℕ) (number : ℕ) (pair : Pair) → AreHeads numbers pairs → IsHead pair.key number → AreHeads (insert numbers at number) (insert pairs at pair)
heads_insert [] [] zero number pair h k = (k, tt)
heads_insert [] [] (suc at) number pair h k = (k, tt)
heads_insert [] (q ∷ pairs) at number pair h k = absurd h
heads_insert (n ∷ numbers) [] at number pair h k = absurd h
heads_insert (n ∷ numbers) (q ∷ pairs) zero number pair h k = (k, h)
heads_insert (n ∷ numbers) (q ∷ pairs) (suc at) number pair h k = (h.0, heads_insert numbers pairs at number pair h.1 k)

pub heads_remove : (numbers : List ℕ) (pairs : List Pair) (at : ℕ) → AreHeads numbers pairs → AreHeads (remove numbers at) (remove pairs at)
heads_remove [] [] zero h = tt
heads_remove [] [] (suc at) h = tt
heads_remove [] (pair ∷ pairs) at h = absurd h
heads_remove (number ∷ numbers) [] at h = absurd h
heads_remove (number ∷ numbers) (pair ∷ pairs) zero h = h.1
heads_remove (number ∷ numbers) (pair ∷ pairs) (suc at) h = (h.0, heads_remove numbers pairs at h.1)

pub heads_take : (n : ℕ) (numbers : List ℕ) (pairs : List Pair) → AreHeads numbers pairs → AreHeads (take n numbers) (take n pairs)
heads_take zero numbers pairs h = tt
heads_take (suc n) [] [] h = tt
heads_take (suc n) [] (pair ∷ pairs) h = absurd h
heads_take (suc n) (number ∷ numbers) [] h = absurd h
heads_take (suc n) (number ∷ numbers) (pair ∷ pairs) h = (h.0, heads_take n numbers pairs h.1)

pub heads_drop : (n : ℕ) (numbers : List ℕ) (pairs : List Pair) → AreHeads numbers pairs → AreHeads (drop n numbers) (drop n pairs)
heads_drop zero numbers pairs h = h
heads_drop (suc n) [] [] h = tt
heads_drop (suc n) [] (pair ∷ pairs) h = absurd h
heads_drop (suc n) (number ∷ numbers) [] h = absurd h
heads_drop (suc n) (number ∷ numbers) (pair ∷ pairs) h = heads_drop n numbers pairs h.1

-- where a head is less than a key's, all pairs up to its own stand before the key
pub headed_more : (numbers : List ℕ) (pairs : List Pair) (key : List ℕ) (at m n : ℕ) → PairsRise pairs → AreHeads numbers pairs → at < length pairs → m ≡ get_or numbers at m → IsHead key n → m < n → n < 18446744073709551615 → AreBefore (at + 1) key pairs
headed_more numbers [] key at m n rise h within is other less tells = absurd (omega (arith, within))
headed_more numbers (p ∷ pairs) key at m n rise h within is other less tells =
    let q : Pair = get_or (p ∷ pairs) at p in
    let there : q ≡ get_or (p ∷ pairs) at q = get_or_default (p ∷ pairs) at p q within in
    let head : IsHead q.key m = subst (IsHead q.key) (sym is) (heads_at numbers (p ∷ pairs) at p m h within) in
    lesser_more (p ∷ pairs) q key at m n rise within there head other less tells

-- where a head is greater, all pairs from its own on stand behind the key
pub headed_end : (numbers : List ℕ) (pairs : List Pair) (key : List ℕ) (at m n : ℕ) → AreHeads numbers pairs → at < length pairs → m ≡ get_or numbers at m → IsHead key n → n < m → m < 18446744073709551615 → AreBehind at key pairs
headed_end numbers [] key at m n h within is other less tells = absurd (omega (arith, within))
headed_end numbers (p ∷ pairs) key at m n h within is other less tells =
    let q : Pair = get_or (p ∷ pairs) at p in
    let there : q ≡ get_or (p ∷ pairs) at q = get_or_default (p ∷ pairs) at p q within in
    let head : IsHead q.key m = subst (IsHead q.key) (sym is) (heads_at numbers (p ∷ pairs) at p m h within) in
    greater_end (p ∷ pairs) q key at m n within there head other less tells
