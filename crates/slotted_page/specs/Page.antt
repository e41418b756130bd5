-- A page as its callers see it: a list of slots, and the limit on their number.
use Rattle.std.specs.Prelude.{ℕ, ◌+◌, ◌-◌, ◌*◌, ◌≤◌, max, Bool, cond, ◌&&◌, nat_le, nat_lt, List, length, get_or, position, Option, Some, None}
use Rattle.std.specs.List.{All}
use Rattle.slotted_page.specs.Slot.{Slot, free, held, reserve_of, total_reserve, is_free, put, IsSoundSlot}

pub record PageValue : Type 0 where
  pub slots : List Slot
  pub limit : ℕ

-- the slot with a number, which is free where the page has none
abbrev pub slot_at : PageValue → ℕ → Slot
slot_at page s = get_or page.slots s free

-- the bytes that the slot with a number has been promised
abbrev pub reserve_at : PageValue → ℕ → ℕ
reserve_at page s = reserve_of (slot_at page s)

-- the reserve of s after an update to n bytes
abbrev pub grown_reserve : PageValue → ℕ → ℕ → ℕ
grown_reserve page s n = max (reserve_at page s) n

-- the page with another slot at s
abbrev pub with_slot : PageValue → ℕ → Slot → PageValue
with_slot page s slot = record { slots = put page.slots s slot; limit = page.limit }

-- what so many slots with so much reserve take of a page: its head, an entry for each slot, and all reserves
abbrev pub taken_bytes : ℕ → ℕ → ℕ
taken_bytes count reserved = 8 + 6 * count + reserved

-- whether the room rule holds of so many slots with so much reserve
abbrev pub has_room : ℕ → ℕ → Bool
has_room count reserved = nat_le (taken_bytes count reserved) 4096

-- the room rule holds with another reserve of a slot
abbrev pub CanReserve : PageValue → ℕ → ℕ → Type 0
CanReserve page s reserve = taken_bytes (length page.slots) (total_reserve page.slots) + reserve ≤ 4096 + reserve_at page s

-- the slot that an insert of n bytes takes, by the lowest free slot
abbrev pub slot_for : Option ℕ → PageValue → ℕ → Option ℕ
slot_for (Some s) page n = cond (has_room (length page.slots) (total_reserve page.slots + n)) (Some s) None
slot_for None page n =
    cond (nat_lt (length page.slots) page.limit && has_room (length page.slots + 1) (total_reserve page.slots + n))
    (Some (length page.slots)) None

-- the slot that an insert of n bytes takes: the lowest free one or else a new one, where the room rule then holds
abbrev pub room_for : PageValue → ℕ → Option ℕ
room_for page n = slot_for (position is_free page.slots) page n

-- the bytes that so many slots with so much reserve leave of a page, 0 where they take all of it
abbrev pub bytes_left : ℕ → ℕ → ℕ
bytes_left count reserved = 4096 - taken_bytes count reserved

-- how many slots a page has with one row more, by the lowest free slot: where none is free, one more than now
abbrev pub slots_with_row : Option ℕ → PageValue → ℕ
slots_with_row (Some s) page = length page.slots
slots_with_row None page = length page.slots + 1

-- whether the room rule holds after an update of s to n bytes
abbrev pub fits_at : PageValue → ℕ → ℕ → Bool
fits_at page s n = has_room (length page.slots) (total_reserve (put page.slots s (held (grown_reserve page s n))))

-- what every page keeps
pub record IsSoundPage (page : PageValue) : Type 0 where
  pub counted : length page.slots ≤ page.limit
  pub limited : page.limit ≤ 255
  pub rows : All IsSoundSlot page.slots
  pub room : taken_bytes (length page.slots) (total_reserve page.slots) ≤ 4096
