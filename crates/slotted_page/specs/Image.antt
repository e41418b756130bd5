-- The page format: what the 4,096 bytes of a page say.
use Rattle.std.specs.Prelude.{ℕ, zero, suc, ◌+◌, ◌*◌, ◌≤◌, ◌≡◌, cond, nat_eq, List, [], ◌∷◌, ◌++◌, length, take, drop}
use Rattle.std.specs.List.{All, AllPairs, flat_map}
use Rattle.byteorder.specs.Endian.{big_bytes, big_number}
use Rattle.slotted_page.specs.Slot.{Slot, total_reserve}
use Rattle.slotted_page.specs.Page.{taken_bytes}
use Rattle.slotted_page.specs.Entry.{slots_of, IsPlaced, Apart}
use Rattle.slotted_page.specs.declared.entry.Entry.{Entry}
use Rattle.slotted_page.specs.declared.entry.Entry.TheVariants.{Free, Held, Row}

-- the number in two bytes of an image
abbrev pub number_at : List ℕ → ℕ → ℕ
number_at image i = big_number 2 (drop i image)

-- the six bytes of three numbers
abbrev pub three : ℕ → ℕ → ℕ → List ℕ
three a b c = big_bytes 2 a ++ (big_bytes 2 b ++ big_bytes 2 c)

-- an entry's six bytes: offset, length and reserve
abbrev pub entry_bytes : Entry → List ℕ
entry_bytes Free = three 0 0 0
entry_bytes (Held r) = three 0 65535 r
entry_bytes (Row o l r) = three o l r

-- a page's first eight bytes: the magic bytes, the number of slots, the floor and zeros
abbrev pub head_bytes : ℕ → ℕ → List ℕ
head_bytes count floor = 83 ∷ 80 ∷ (big_bytes 2 count ++ (big_bytes 2 floor ++ (0 ∷ 0 ∷ [])))

-- the entry that three numbers stand for
abbrev pub entry_from : ℕ → ℕ → ℕ → Entry
entry_from o l r = cond (nat_eq o 0) (cond (nat_eq l 65535) (Held r) Free) (Row o l r)

-- the entry that stands first in bytes
abbrev pub first_entry : List ℕ → Entry
first_entry bytes = entry_from (number_at bytes 0) (number_at bytes 2) (number_at bytes 4)

-- the first n entries in bytes
abbrev pub read_entries : ℕ → List ℕ → List Entry
read_entries zero bytes = []
read_entries (suc n) bytes = first_entry bytes ∷ read_entries n (drop 6 bytes)

-- the entries of a page
abbrev pub image_entries : List ℕ → List Entry
image_entries image = read_entries (number_at image 2) (drop 8 image)

-- the slots of a page
abbrev pub slots_in : List ℕ → List Slot
slots_in image = slots_of image (image_entries image)

-- an image is a page in the page format
pub record KeepsFormat (image : List ℕ) : Type 0 where
  pub long : length image ≡ 4096
  pub magic : take 2 image ≡ 83 ∷ 80 ∷ []
  pub zeros : take 2 (drop 6 image) ≡ 0 ∷ 0 ∷ []
  pub entries : take (6 * number_at image 2) (drop 8 image) ≡ flat_map entry_bytes (image_entries image)
  pub floor : 8 + 6 * number_at image 2 ≤ number_at image 4
  pub within : number_at image 4 ≤ 4096
  pub empty : number_at image 2 ≡ 0 → number_at image 4 ≡ 4096
  pub placed : All (IsPlaced (number_at image 4)) (image_entries image)
  pub apart : AllPairs Apart (image_entries image)
  pub room : taken_bytes (number_at image 2) (total_reserve (slots_in image)) ≤ 4096
