-- The bytes of a page of pairs.
use Rattle.std.specs.Prelude.{ℕ, zero, suc, ◌+◌, ◌^◌, ◌≤◌, ◌<◌, ◌≡◌, List, [], ◌∷◌, ◌++◌, length, take, drop}
use Rattle.std.specs.List.{All, flat_map}
use Rattle.byteorder.specs.Endian.{big_bytes, big_number}
use Rattle.keybytes.specs.declared.rid.Rid.{Rid}
use Rattle.keybytes.specs.declared.pair.Pair.{Pair}

-- the bytes of a RID: its page and its slot
abbrev pub rid_bytes : Rid → List ℕ
rid_bytes rid = big_bytes 4 rid.page ++ big_bytes 2 rid.slot

-- the RID that stands first in bytes
abbrev pub first_rid : List ℕ → Rid
first_rid bytes = record { page = big_number 4 bytes; slot = big_number 2 (drop 4 bytes) }

-- the bytes of a pair: the key's length, the key and the RID
abbrev pub pair_bytes : Pair → List ℕ
pair_bytes p = big_bytes 2 (length p.key) ++ (p.key ++ rid_bytes p.rid)

-- how many bytes a pair takes
abbrev pub pair_size : Pair → ℕ
pair_size p = 8 + length p.key

-- the length of the key that stands first in bytes
abbrev pub first_length : List ℕ → ℕ
first_length bytes = big_number 2 bytes

-- the pair that stands first in bytes
abbrev pub first_pair : List ℕ → Pair
first_pair bytes = record {
  key = take (first_length bytes) (drop 2 bytes);
  rid = first_rid (drop (2 + first_length bytes) bytes);
}

-- the first n pairs in bytes
abbrev pub read_pairs : ℕ → List ℕ → List Pair
read_pairs zero bytes = []
read_pairs (suc n) bytes = first_pair bytes ∷ read_pairs n (drop (8 + first_length bytes) bytes)

-- a pair whose numbers fit their bytes, with a key that has a key's length
abbrev pub IsPair : Pair → Type 0
IsPair p = (length p.key ≤ 812) × (p.rid.page < 2 ^ 32) × (p.rid.slot < 2 ^ 16)

-- in an area of 4,096 bytes the pairs stand one after the other from `at` to `end`
pub record Stored (bytes : List ℕ) (at end : ℕ) (pairs : List Pair) : Type 0 where
  pub long : length bytes ≡ 4096
  pub order : at ≤ end
  pub within : end ≤ 4096
  pub are : drop at bytes ≡ flat_map pair_bytes pairs ++ drop end bytes
  pub each : All IsPair pairs
