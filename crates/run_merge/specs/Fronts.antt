-- The number that the first bytes of a head's key make: where it tells something, heads are in its order.
use Rattle.std.specs.Prelude.{◌≡◌, ℕ, ◌<◌, ◌≤◌, List, length, Option, Some, None}
use Rattle.byteorder.specs.Endian.{big_number}
use Rattle.keybytes.specs.Heads.{AreBytes}
use Rattle.keybytes.specs.declared.pair.Pair.{Pair}

-- it is the number of the first eight bytes
pub record IsNumber (bytes : List ℕ) (front : ℕ) : Type 0 where
  pub are_bytes : AreBytes bytes
  pub long : 8 ≤ length bytes
  pub is : front ≡ big_number 8 bytes

-- a run with no pair has none
abbrev pub HasFront : Option Pair → ℕ → Type 0
HasFront None front = ⊥
HasFront (Some pair) front = IsNumber pair.key front

-- 0 tells nothing
abbrev pub IsFront : Option Pair → ℕ → Type 0
IsFront head front = 0 < front → HasFront head front
