-- An entry of a page's directory, and lists of entries over the bytes of the page.
use Rattle.std.specs.Prelude.{ℕ, ◌+◌, ◌≤◌, ◌<◌, ◌⊎◌, Bool, true, false, List, map, slice_range}
use Rattle.slotted_page.specs.Slot.{Slot, free, held, row}
use Rattle.slotted_page.specs.declared.entry.Entry.{Entry}
use Rattle.slotted_page.specs.declared.entry.Entry.TheVariants.{Free, Held, Row}

-- the slot that an entry stands for
abbrev pub slot_of : List ℕ → Entry → Slot
slot_of image Free = free
slot_of image (Held r) = held r
slot_of image (Row o l r) = row (slice_range image o (o + l)) r

-- the slots that a directory stands for
abbrev pub slots_of : List ℕ → List Entry → List Slot
slots_of image entries = map (slot_of image) entries

-- the length of an entry's row
abbrev pub length_of : Entry → ℕ
length_of Free = 0
length_of (Held r) = 0
length_of (Row o l r) = l

-- the bytes that an entry's slot has been promised
abbrev pub entry_reserve : Entry → ℕ
entry_reserve Free = 0
entry_reserve (Held r) = r
entry_reserve (Row o l r) = r

-- whether an entry's slot is free
abbrev pub is_free_entry : Entry → Bool
is_free_entry Free = true
is_free_entry (Held r) = false
is_free_entry (Row o l r) = false

-- a row of 1 to 1,224 bytes lies at or above the floor and within the page, and within its reserve
abbrev pub IsPlaced : ℕ → Entry → Type 0
IsPlaced floor Free = Unit {0}
IsPlaced floor (Held r) = Unit {0}
IsPlaced floor (Row o l r) = (floor ≤ o) × (o + l ≤ 4096) × (0 < l) × (l ≤ 1224) × (l ≤ r)

-- the bytes of two rows don't overlap
abbrev pub Apart : Entry → Entry → Type 0
Apart Free e = Unit {0}
Apart (Held r) e = Unit {0}
Apart (Row o l r) Free = Unit {0}
Apart (Row o l r) (Held s) = Unit {0}
Apart (Row o l r) (Row p m s) = (o + l ≤ p) ⊎ (p + m ≤ o)
