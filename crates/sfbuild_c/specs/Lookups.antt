-- Keys of ready indexes, and their pairs, in buffers of the caller's.
use Rattle.std.specs.Prelude.{◌≡◌, ◌⊎◌, ◌&&◌, not, nat_le, ℕ, Bool, List, length, take, Option, Some, None, slice_get}
use Rattle.keybytes.specs.Faults.{RefusedFor, first_cause}
use Rattle.keybytes.specs.Rows.{RefusesReading, Spells}
use Rattle.keybytes.specs.declared.cell.Cell.{Cell}
use Rattle.keybytes.specs.declared.fault.Fault.{Fault}
use Rattle.keybytes.specs.declared.fault.Fault.TheVariants.{BadCount}
use Rattle.keybytes.specs.declared.pair.Pair.{Pair}
use Rattle.build_events.specs.BuildSteps.{cause_if}
use Rattle.ready_indexes.specs.Indexes.{ReadyValue}
use Rattle.kept_table.specs.KeptTables.{KeptValue}
use Rattle.kept_table.specs.Lookups.{GoesOnWith, IsFirstKey, key_refusal, number_refusal}
use Rattle.sfbuild_c.specs.Buffers.{HandsOut}
use Rattle.sfbuild_c.specs.Places.{place_of, rid_of}
use Rattle.sfbuild_c.specs.declared.place.Place.{Place}

-- the key that the first so many columns of an index have of a row
abbrev pub IsKeyOfRow : ℕ → ℕ → List ℕ → KeptValue → List ℕ → Type 0
IsKeyOfRow index columns row table key =
    (cells : List Cell) × Spells table.core.live.heap.schema row cells
    × (key_refusal table.core.live index columns cells ≡ None)
    × IsFirstKey table.core.live.heap.schema columns (slice_get table.core.live.ready index) cells key

-- why there is none
abbrev pub HasNoKey : ℕ → ℕ → List ℕ → KeptValue → Fault → Type 0
HasNoKey index columns row table fault =
    RefusesReading table.core.live.heap.schema row fault
    ⊎ ((cells : List Cell) × Spells table.core.live.heap.schema row cells × RefusedFor (key_refusal table.core.live index columns cells) fault)

-- the key is handed out
abbrev pub HandsOutKey : ℕ → ℕ → List ℕ → List ℕ → ℕ → List ℕ → ℕ → KeptValue → KeptValue → Type 0
HandsOutKey index columns row room status new_room size before after =
    (after ≡ before) × ((key : List ℕ) × IsKeyOfRow index columns row before key × HandsOut key room status new_room size)

-- there is no key to hand out, and nothing changes
abbrev pub RefusesKey : ℕ → ℕ → List ℕ → Fault → KeptValue → KeptValue → Type 0
RefusesKey index columns row fault before after = (after ≡ before) × HasNoKey index columns row before fault

-- a pair in buffers of the caller's: the bytes of its key stand at the front of a room, so many as the size says
pub record PairBuffers : Type 0 where
  pub room : List ℕ
  pub size : ℕ
  pub rid : Place

-- the pair that stands in them
abbrev pub pair_in : PairBuffers → Pair
pair_in buffers = record { key = take buffers.size buffers.room; rid = rid_of buffers.rid }

-- a pair is handed out into them, or the status tells that there is none; where its key has no room, its length alone is told
abbrev pub HandsOutPair : Option Pair → PairBuffers → ℕ → PairBuffers → Type 0
HandsOutPair None old status new = (status ≡ 3) × (new ≡ old)
HandsOutPair (Some pair) old status new =
    HandsOut pair.key old.room status new.room new.size × ((status ≡ 0) → new.rid ≡ place_of pair.rid) × ((status ≡ 4) → new.rid ≡ old.rid)

-- the most bytes of a key
abbrev pub key_most : ℕ
key_most = 812

-- why no pair is looked for: no key of that size stands in the room, or there is no such index
abbrev pub pair_refusal : List ℕ → ℕ → Option ReadyValue → Option Fault
pair_refusal room size index =
    first_cause (cause_if (not (nat_le size (length room) && nat_le size key_most)) BadCount) (number_refusal index)

-- an index goes on with a pair, which is handed out
abbrev pub GoesOn : ℕ → Bool → PairBuffers → ℕ → PairBuffers → KeptValue → KeptValue → Type 0
GoesOn index past old status new before after =
    (after ≡ before) × (pair_refusal old.room old.size (slice_get before.core.live.ready index) ≡ None)
    × ((found : Option Pair) × GoesOnWith past (pair_in old) (slice_get before.core.live.ready index) found × HandsOutPair found old status new)

-- it doesn't, and nothing changes
abbrev pub RefusesToGoOn : ℕ → PairBuffers → Fault → KeptValue → KeptValue → Type 0
RefusesToGoOn index old fault before after =
    (after ≡ before) × RefusedFor (pair_refusal old.room old.size (slice_get before.core.live.ready index)) fault
