-- The numbers that begin keys.
use Rattle.std.specs.Prelude.{◌≡◌, ℕ, ◌<◌, ◌≤◌, List, [], ◌∷◌, not, length}
use Rattle.byteorder.specs.Endian.{big_number}
use Rattle.keybytes.specs.Heads.{AreBytes}
use Rattle.keybytes.specs.declared.pair.Pair.{Pair}
use Rattle.keybytes.specs.declared.rid.Rid.{Rid}
use Rattle.tree_nodes.specs.Lists.{front_count}
use Rattle.tree_nodes.specs.Order.{is_before}

-- the key has eight bytes, and they make this number
pub record BeginsWith (key : List ℕ) (number : ℕ) : Type 0 where
  pub long : 8 ≤ length key
  pub bytes : AreBytes key
  pub is : number ≡ big_number 8 key

-- the number of the key; the greatest one tells nothing of it
pub record IsHead (key : List ℕ) (number : ℕ) : Type 0 where
  pub tells : number < 18446744073709551615 → BeginsWith key number

-- at least so many of the pairs stand before the key, whatever the RID
pub record AreBefore (count : ℕ) (key : List ℕ) (pairs : List Pair) : Type 0 where
  pub each : (rid : Rid) → count ≤ front_count (λ pair. is_before pair (record { key = key; rid = rid })) pairs

-- at most so many of the pairs don't stand behind the key, whatever the RID
pub record AreBehind (count : ℕ) (key : List ℕ) (pairs : List Pair) : Type 0 where
  pub each : (rid : Rid) → front_count (λ pair. not (is_before (record { key = key; rid = rid }) pair)) pairs ≤ count

-- the heads of the pairs' keys, in the same order
abbrev pub AreHeads : List ℕ → List Pair → Type 0
AreHeads [] [] = Unit {0}
AreHeads [] (pair ∷ pairs) = ⊥
AreHeads (number ∷ numbers) [] = ⊥
AreHeads (number ∷ numbers) (pair ∷ pairs) = IsHead pair.key number × AreHeads numbers pairs

-- pairs with their heads, and memory for as many as there may be
pub record IsHeaded (numbers : List ℕ) (pairs : List Pair) (heads_capacity pairs_capacity : ℕ) : Type 0 where
  pub heads : AreHeads numbers pairs
  pub same_length : length numbers ≡ length pairs
  pub heads_room : 32 ≤ heads_capacity
  pub pairs_room : 32 ≤ pairs_capacity
