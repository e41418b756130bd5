-- The bytes of pairs of which each is written behind the key before it.
use Rattle.std.specs.Prelude.{ℕ, zero, suc, ◌+◌, ◌-◌, ◌≤◌, ◌≡◌, nat_eq, if◌then◌else◌, List, [], ◌∷◌, ◌++◌, length, take, drop}
use Rattle.std.specs.List.{All}
use Rattle.byteorder.specs.Endian.{big_bytes, big_number}
use Rattle.keybytes.specs.declared.pair.Pair.{Pair}
use Rattle.run_spool.specs.Bytes.{rid_bytes, first_rid, IsPair}

-- how many bytes two keys have in common before the first in which they differ
abbrev pub shared : List ℕ → List ℕ → ℕ
shared [] key = 0
shared (b ∷ before) [] = 0
shared (b ∷ before) (k ∷ key) = if nat_eq b k then suc (shared before key) else 0

-- the bytes of a pair whose key begins with n bytes of the key before it: that number, how many more its key has, those, and the RID
abbrev pub bytes_sharing : ℕ → Pair → List ℕ
bytes_sharing n p = big_bytes 2 n ++ (big_bytes 2 (length p.key - n) ++ (drop n p.key ++ rid_bytes p.rid))

-- how many bytes it takes
abbrev pub size_sharing : ℕ → Pair → ℕ
size_sharing n p = 10 + (length p.key - n)

-- the bytes of a pair behind a key
abbrev pub bytes_behind : List ℕ → Pair → List ℕ
bytes_behind before p = bytes_sharing (shared before p.key) p

-- how many bytes a pair takes behind a key
abbrev pub prefix_size : List ℕ → Pair → ℕ
prefix_size before p = size_sharing (shared before p.key) p

-- the bytes of pairs, of which the first stands behind a key
abbrev pub all_behind : List ℕ → List Pair → List ℕ
all_behind before [] = []
all_behind before (p ∷ ps) = bytes_behind before p ++ all_behind p.key ps

-- how many bytes of the key before it the key that stands first in bytes begins with
abbrev pub first_shared : List ℕ → ℕ
first_shared bytes = big_number 2 bytes

-- how many more bytes that key has
abbrev pub first_more : List ℕ → ℕ
first_more bytes = big_number 2 (drop 2 bytes)

-- the key of the pair that stands first in bytes, behind a key
abbrev pub first_key : List ℕ → List ℕ → List ℕ
first_key before bytes = take (first_shared bytes) before ++ take (first_more bytes) (drop 4 bytes)

-- the pair that stands first in bytes, behind a key
abbrev pub first_behind : List ℕ → List ℕ → Pair
first_behind before bytes = record { key = first_key before bytes; rid = first_rid (drop (4 + first_more bytes) bytes) }

-- the first n pairs in bytes, of which the first stands behind a key
abbrev pub read_behind : ℕ → List ℕ → List ℕ → List Pair
read_behind zero before bytes = []
read_behind (suc n) before bytes = first_behind before bytes ∷ read_behind n (first_key before bytes) (drop (10 + first_more bytes) bytes)

-- in an area of 4,096 bytes the pairs stand one after the other from `at` to `end`, the first behind a key
pub record StandsBehind (bytes : List ℕ) (at end : ℕ) (before : List ℕ) (pairs : List Pair) : Type 0 where
  pub long : length bytes ≡ 4096
  pub order : at ≤ end
  pub within : end ≤ 4096
  pub are : drop at bytes ≡ all_behind before pairs ++ drop end bytes
  pub each : All IsPair pairs
