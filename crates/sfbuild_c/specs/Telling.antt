-- What a build tells: how far it is, and what its switch decided.
use Rattle.std.specs.Prelude.{◌≡◌, ◌⊎◌, ℕ, true, false, List, [], Option, Some, None, min, is_some, count_by, slice_get}
use Rattle.keybytes.specs.Faults.{RefusedFor}
use Rattle.keybytes.specs.Rows.{row_bytes}
use Rattle.keybytes.specs.declared.cell.Cell.{Cell}
use Rattle.keybytes.specs.declared.fault.Fault.{Fault}
use Rattle.keybytes.specs.declared.fault.Fault.TheVariants.{BadCount}
use Rattle.heap_log.specs.declared.outcome.Outcome.{Outcome}
use Rattle.heap_log.specs.declared.outcome.Outcome.TheVariants.{Ready, Shared}
use Rattle.kept_table.specs.Decisions.{AreSharedCells, IsNotShared, specs_in, verdicts_in}
use Rattle.kept_table.specs.KeptTables.{KeptValue}
use Rattle.kept_table.specs.Progresses.{all_unfed, index_count, pages_copied, pages_read}
use Rattle.sfbuild_c.specs.Buffers.{HandsOut}
use Rattle.sfbuild_c.specs.Places.{no_place, place_of}
use Rattle.sfbuild_c.specs.declared.progress.ProgressOf.{ProgressOf}
use Rattle.sfbuild_c.specs.declared.verdict.VerdictOf.{VerdictOf}

-- how far the build is that runs, if one does
pub record IsSoFar (told : ProgressOf) (before after : KeptValue) : Type 0 where
  pub unchanged : after ≡ before
  pub running : told.running ≡ is_some before.core.live.build
  pub pages : told.pages ≡ pages_read before.core.live.build
  pub scanned : told.scanned ≡ pages_copied before.core.live.build
  pub indexes : told.indexes ≡ index_count before.core.live.build
  pub loaded : told.loaded ≡ count_by (λ index. index.loaded) before.core.work.indexes
  pub waiting : told.waiting ≡ min (all_unfed before.core.live) 18446744073709551615

-- how C sees a verdict: what it doesn't name is 0
abbrev pub as_verdict : Outcome → VerdictOf
as_verdict (Ready number) = record { ready = true; number = number; first = no_place; second = no_place }
as_verdict (Shared key first second) = record { ready = false; number = 0; first = place_of first; second = place_of second }

-- these are the cells of the key that rows share, for which the index was refused; none of an index that wasn't
abbrev pub AreCellsOf : ℕ → KeptValue → List Cell → Type 0
AreCellsOf index table cells =
    (IsNotShared (slice_get (verdicts_in table.decided) index) × (cells ≡ []))
    ⊎ AreSharedCells (slice_get (specs_in table.decided) index) (slice_get (verdicts_in table.decided) index) cells

-- these are their bytes
abbrev pub AreBytesOf : ℕ → KeptValue → List ℕ → Type 0
AreBytesOf index table bytes = (cells : List Cell) × AreCellsOf index table cells × (bytes ≡ row_bytes cells)

-- that is the verdict on an index, and these are the bytes of the cells of its key
abbrev pub IsVerdictOf : ℕ → KeptValue → Outcome → List ℕ → Type 0
IsVerdictOf index table verdict bytes = (slice_get (verdicts_in table.decided) index ≡ Some verdict) × AreBytesOf index table bytes

-- both are handed out; where the cells have no room, their length alone is told
abbrev pub TellsVerdict : ℕ → List ℕ → VerdictOf → ℕ → VerdictOf → List ℕ → ℕ → KeptValue → KeptValue → Type 0
TellsVerdict index room old status new new_room size before after =
    (after ≡ before)
    × ((verdict : Outcome) × (bytes : List ℕ) × IsVerdictOf index before verdict bytes × HandsOut bytes room status new_room size
    × ((status ≡ 0) → new ≡ as_verdict verdict) × ((status ≡ 4) → new ≡ old))

-- why there is no verdict
abbrev pub verdict_refusal : Option Outcome → Option Fault
verdict_refusal None = Some BadCount
verdict_refusal (Some verdict) = None

-- the newest switch decided on no such index, or there is no memory
abbrev pub HasNoVerdict : ℕ → Fault → KeptValue → KeptValue → Type 0
HasNoVerdict index fault before after = (after ≡ before) × RefusedFor (verdict_refusal (slice_get (verdicts_in before.decided) index)) fault
