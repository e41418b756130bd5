-- What one record more does to a log: to its rows, its standing and last writes, and its numbers.
use Rattle.std.specs.Prelude.{◌≡◌, ℕ, ◌+◌, ◌-◌, ◌≤◌, ◌<◌, ◌⊎◌, false, ◌||◌, ◌==◌, if◌then◌else◌, List, length, Option, Some, IsSome}
use Rattle.keybytes.specs.declared.cell.Cell.{Cell}
use Rattle.keybytes.specs.Rids.{same_rid}
use Rattle.keybytes.specs.declared.rid.Rid.{Rid}
use Rattle.heap_log.specs.declared.record.LogRec.{LogRec}
use Rattle.heap_log.specs.declared.record.LogRec.TheVariants.{Write, Undo, Commit, Switch}
use Rattle.heap_log.specs.Standing.{is_number, is_undo_of, is_write_at, is_write_of, last_at, last_below, last_of, live_at, newest_at, newest_standing}
use Rattle.heap_log.specs.Standing.{place_of, record_at, rid_of, row_at, standing_before, standing_count, stands_of, undone}

-- the row that stands at the RID once the record is added
abbrev pub live_after : List LogRec → LogRec → Rid → Option (List Cell)
live_after log (Write txn rid row) place = if same_rid rid place then row else live_at log place
live_after log (Undo txn n) place = if is_number n (newest_at log place) then row_at log (standing_before log n) else live_at log place
live_after log (Commit txn) place = live_at log place
live_after log (Switch verdicts) place = live_at log place

-- the transaction's newest standing write once the record is added
abbrev pub newest_after : List LogRec → LogRec → ℕ → Option ℕ
newest_after log (Write writer rid row) txn = if writer == txn then Some (length log + 1) else newest_standing log txn
newest_after log (Undo t n) txn = if is_number n (newest_standing log txn) then last_below (stands_of log txn) n else newest_standing log txn
newest_after log (Commit t) txn = newest_standing log txn
newest_after log (Switch verdicts) txn = newest_standing log txn

-- how many writes of the transaction stand once the record is added
abbrev pub count_after : List LogRec → LogRec → ℕ → ℕ
count_after log (Write writer rid row) txn = if writer == txn then standing_count log txn + 1 else standing_count log txn
count_after log (Undo t n) txn = if stands_of log txn n then standing_count log txn - 1 else standing_count log txn
count_after log (Commit t) txn = standing_count log txn
count_after log (Switch verdicts) txn = standing_count log txn

-- the newest standing write before write n, at its RID, once the record is added
abbrev pub before_after : List LogRec → LogRec → ℕ → Option ℕ
before_after log (Write txn rid row) n = if n == length log + 1 then newest_at log rid else standing_before log n
before_after log (Undo txn undone) n = if is_number undone (standing_before log n) then standing_before log undone else standing_before log n
before_after log (Commit txn) n = standing_before log n
before_after log (Switch verdicts) n = standing_before log n

-- what a record does to the rows: a write puts its row at its RID, the undo of the newest standing write at a RID
-- brings back the row of the one before it, and all else stays
pub record AddsToLive (old : List LogRec) (added : LogRec) (new : List LogRec) : Type 0 where
  pub live : (place : Rid) → live_at new place ≡ live_after old added place

-- what a record does to the standing writes of each transaction
pub record AddsToStanding (old : List LogRec) (added : LogRec) (new : List LogRec) : Type 0 where
  pub newest : (txn : ℕ) → newest_standing new txn ≡ newest_after old added txn
  pub count : (txn : ℕ) → standing_count new txn ≡ count_after old added txn

-- the record undoes nothing that stands before write n at its RID
abbrev pub KeepsBefore : List LogRec → ℕ → LogRec → Type 0
KeepsBefore log n (Write txn rid row) = Unit {0}
KeepsBefore log n (Undo txn undone) = (n ≤ undone) ⊎ (is_write_at (rid_of (record_at log n)) (record_at log undone) ≡ false)
KeepsBefore log n (Commit txn) = Unit {0}
KeepsBefore log n (Switch verdicts) = Unit {0}

-- what a record does to the standing write before another: a record that undoes none of them leaves it; the undo of the
-- newest of them brings back the one before it; and a new write comes after the newest at its RID
pub record AddsToBefore (old : List LogRec) (added : LogRec) (new : List LogRec) : Type 0 where
  pub before : (n : ℕ) → n ≤ length old → KeepsBefore old n added → standing_before new n ≡ standing_before old n
  pub after : (n : ℕ) → IsSome (place_of (record_at new n)) → standing_before new n ≡ before_after old added n

-- what a record does to the last writes, standing or not: a write is the last one of its transaction and at its RID, and
-- all else stays
pub record AddsToLast (old : List LogRec) (added : LogRec) (new : List LogRec) : Type 0 where
  pub of_txn : (txn : ℕ) → last_of new txn (length new + 1) ≡ (if is_write_of txn (Some added) then Some (length old + 1) else last_of old txn (length old + 1))
  pub at_rid : (rid : Rid) → last_at new rid (length new + 1)
      ≡ (if is_write_at rid (Some added) then Some (length old + 1) else last_at old rid (length old + 1))
  pub earlier : (txn n : ℕ) → n ≤ length old + 1 → last_of new txn n ≡ last_of old txn n

-- what a record does to the numbers: it takes the next one, each before it keeps its record, and no undo names a later one
pub record AddsToNumbers (old : List LogRec) (added : LogRec) (new : List LogRec) : Type 0 where
  pub here : record_at new (length old + 1) ≡ Some added
  pub earlier : (n : ℕ) → n ≤ length old → record_at new n ≡ record_at old n
  pub undoes : (n : ℕ) → undone new n ≡ (undone old n || is_undo_of n added)
  pub later : (n : ℕ) → length new < n → undone new n ≡ false
