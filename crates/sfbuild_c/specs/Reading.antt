-- What is read of a table.
use Rattle.std.specs.Prelude.{◌≡◌, ◌⊎◌, ℕ, List, Some, length}
use Rattle.keybytes.specs.Faults.{RefusedFor}
use Rattle.keybytes.specs.Rows.{row_bytes}
use Rattle.keybytes.specs.declared.cell.Cell.{Cell}
use Rattle.keybytes.specs.declared.fault.Fault.{Fault}
use Rattle.keybytes.specs.declared.fault.Fault.TheVariants.{Memory}
use Rattle.keybytes.specs.declared.rid.Rid.{Rid}
use Rattle.heap_log.specs.Standing.{live_at}
use Rattle.heap_table.specs.HeapState.{after_visit, row_missing}
use Rattle.heap_table.specs.Pages.{pages_written}
use Rattle.build_events.specs.CoreState.{with_heap}
use Rattle.kept_table.specs.KeptTables.{KeptValue}
use Rattle.sfbuild_c.specs.Buffers.{HandsOut}

-- no fault refuses it
abbrev pub RefusesNothing : Fault → KeptValue → KeptValue → Type 0
RefusesNothing fault before after = ⊥

-- it has so many pages
abbrev pub HasPages : ℕ → KeptValue → KeptValue → Type 0
HasPages pages before after = (pages ≡ pages_written before.core.live.heap.log) × (after ≡ before)

-- it has so many ready indexes
abbrev pub HasReady : ℕ → KeptValue → KeptValue → Type 0
HasReady indexes before after = (indexes ≡ length before.core.live.ready) × (after ≡ before)

-- a row was given out once more, and nothing else has changed
abbrev pub IsVisited : KeptValue → KeptValue → Type 0
IsVisited before after = after ≡ record before { core = with_heap before.core (after_visit before.core.live.heap) }

-- these are the bytes of the row that stands there
abbrev pub IsRowAt : Rid → KeptValue → List ℕ → Type 0
IsRowAt rid table bytes = (cells : List Cell) × (live_at table.core.live.heap.log rid ≡ Some cells) × (bytes ≡ row_bytes cells)

-- they are handed out
abbrev pub HandsOutRow : Rid → List ℕ → ℕ → List ℕ → ℕ → KeptValue → KeptValue → Type 0
HandsOutRow rid room status new_room size before after =
    IsVisited before after × ((bytes : List ℕ) × IsRowAt rid before bytes × HandsOut bytes room status new_room size)

-- no row is handed out: none stands there, and nothing changes; or there is no memory, for the row or behind that for its bytes
abbrev pub RefusesToHandOut : Rid → Fault → KeptValue → KeptValue → Type 0
RefusesToHandOut rid fault before after =
    RefusedFor (row_missing (live_at before.core.live.heap.log rid)) fault × ((after ≡ before) ⊎ ((fault ≡ Memory) × IsVisited before after))
