-- The heads of RIDs by page and slot.
use Rattle.std.specs.Prelude.{◌≡◌, ℕ, ◌<◌, List, [], length, map, get_or, None, IfSome}
use Rattle.keybytes.specs.declared.rid.Rid.{Rid}
use Rattle.heap_log.specs.declared.rid_head.RidHead.{RidHead}
use Rattle.heap_log.specs.declared.slot_heads.PackedHead.{PackedHead}
use Rattle.heap_log.specs.KeptNumbers.{number_in}
use Rattle.heap_log.specs.Places.{HasPlace, KeepsPlaces}

-- the head of a RID that no write was at
abbrev pub no_head : RidHead
no_head = record { last = None; newest = None }

-- what is kept of a head
abbrev pub unpacked : PackedHead → RidHead
unpacked packed = record { last = number_in packed.last; newest = number_in packed.newest }

-- its records are numbered from 1
pub record IsNumbered (head : RidHead) : Type 0 where
  pub last : IfSome head.last (λ n. 0 < n)
  pub newest : IfSome head.newest (λ n. 0 < n)

-- the head of a RID
abbrev pub rid_head_in : List (List RidHead) → Rid → RidHead
rid_head_in pages rid = get_or (get_or pages rid.page []) rid.slot no_head

-- how many slots of each page have places
abbrev pub places_of : List (List RidHead) → List ℕ
places_of pages = map (λ slots. length slots) pages

-- the RID has a place, every RID that had one has it still, and the heads are the same
pub record IsReserved (rid : Rid) (old new : List (List RidHead)) : Type 0 where
  pub place : HasPlace rid (places_of new)
  pub kept : KeepsPlaces (places_of old) (places_of new)
  pub heads : (other : Rid) → rid_head_in new other ≡ rid_head_in old other
