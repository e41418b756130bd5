-- A slot of a page, and lists of slots, which are numbered from 0.
use Rattle.std.specs.Prelude.{ℕ, zero, suc, ◌+◌, ◌<◌, ◌≤◌, Bool, true, false, List, [], ◌∷◌, length, Option, Some, None}
use Rattle.std.specs.List.{sum_by, position_or_len}

-- free, held with its reserve while a change may be taken back, or a row's bytes with their reserve
pub data Slot : Type 0 where
  free : Slot
  held : ℕ → Slot
  row : List ℕ → ℕ → Slot

-- the bytes that a slot has been promised
abbrev pub reserve_of : Slot → ℕ
reserve_of free = 0
reserve_of (held reserve) = reserve
reserve_of (row bytes reserve) = reserve

-- the bytes that all slots together have been promised
abbrev pub total_reserve : List Slot → ℕ
total_reserve slots = sum_by reserve_of slots

-- the row in a slot
abbrev pub bytes_of : Slot → Option (List ℕ)
bytes_of free = None
bytes_of (held reserve) = None
bytes_of (row bytes reserve) = Some bytes

-- the slot with a row's reserve cut to its length
abbrev pub trimmed : Slot → Slot
trimmed free = free
trimmed (held reserve) = held reserve
trimmed (row bytes reserve) = row bytes (length bytes)

-- the slot once nothing can be taken back in it any more
abbrev pub settled : Slot → Slot
settled free = free
settled (held reserve) = free
settled (row bytes reserve) = row bytes (length bytes)

-- whether a slot is free
abbrev pub is_free : Slot → Bool
is_free free = true
is_free (held reserve) = false
is_free (row bytes reserve) = false

-- the lowest free slot, or the number of slots where none is free
abbrev pub lowest_free : List Slot → ℕ
lowest_free slots = position_or_len is_free slots

-- whether a slot is held
abbrev pub is_held : Slot → Bool
is_held free = false
is_held (held reserve) = true
is_held (row bytes reserve) = false

-- a slot has a row
abbrev pub IsRow : Slot → Type 0
IsRow free = ⊥
IsRow (held reserve) = ⊥
IsRow (row bytes reserve) = Unit {0}

-- a slot is held
abbrev pub IsHeld : Slot → Type 0
IsHeld free = ⊥
IsHeld (held reserve) = Unit {0}
IsHeld (row bytes reserve) = ⊥

-- a slot has a row or is held
abbrev pub IsTaken : Slot → Type 0
IsTaken free = ⊥
IsTaken (held reserve) = Unit {0}
IsTaken (row bytes reserve) = Unit {0}

-- a row can have so many bytes: 1 to 1,224
abbrev pub IsRowSize : ℕ → Type 0
IsRowSize n = (0 < n) × (n ≤ 1224)

-- a row has a row's size, and is no longer than its reserve
abbrev pub IsSoundSlot : Slot → Type 0
IsSoundSlot free = Unit {0}
IsSoundSlot (held reserve) = Unit {0}
IsSoundSlot (row bytes reserve) = IsRowSize (length bytes) × (length bytes ≤ reserve)

-- the slots with another one at a place, or with one more where the place is their number
abbrev pub put : List Slot → ℕ → Slot → List Slot
put [] s slot = slot ∷ []
put (x ∷ slots) zero slot = slot ∷ slots
put (x ∷ slots) (suc s) slot = x ∷ put slots s slot

-- the rows among slots that are numbered from s on, each with its number
abbrev pub rows_from : ℕ → List Slot → List (ℕ × List ℕ)
rows_from s [] = []
rows_from s (free ∷ slots) = rows_from (s + 1) slots
rows_from s (held reserve ∷ slots) = rows_from (s + 1) slots
rows_from s (row bytes reserve ∷ slots) = (s, bytes) ∷ rows_from (s + 1) slots
