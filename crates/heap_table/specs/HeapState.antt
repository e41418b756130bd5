-- The table as its callers see it: its log and its open transactions; and what each call does, or why it is refused.
use Rattle.std.specs.Prelude.{ℕ, ◌+◌, Bool, true, false, ◌&&◌, not, ◌==◌, ◌||◌, nat_lt, nat_le, min, if◌then◌else◌, List, [], ◌∷◌, ◌++◌, length, map, filter}
use Rattle.std.specs.Prelude.{position, is_some, Option, Some, None}
use Rattle.std.specs.List.{list_any, range_with_len}
use Rattle.std.specs.Option.{option_map}
use Rattle.keybytes.specs.Faults.{first_cause}
use Rattle.keybytes.specs.Rows.{row_bytes, shape_refusal}
use Rattle.keybytes.specs.declared.cell.Cell.{Cell}
use Rattle.keybytes.specs.declared.kind.Kind.{Kind}
use Rattle.keybytes.specs.declared.rid.Rid.{Rid}
use Rattle.keybytes.specs.declared.fault.Fault.{Fault}
use Rattle.keybytes.specs.declared.fault.Fault.TheVariants.{NoSuchTxn, TxnEnding, Fenced, TooManyTxns, TableFull, BadCount, NoSuchRow, RowHeld, PageFull}
use Rattle.heap_log.specs.declared.outcome.Outcome.{Outcome}
use Rattle.heap_log.specs.declared.record.LogRec.{LogRec}
use Rattle.heap_log.specs.declared.record.LogRec.TheVariants.{Write, Undo, Commit, Switch}
use Rattle.heap_log.specs.Standing.{live_at, standing_count}
use Rattle.slotted_page.specs.Page.{PageValue, room_for, fits_at}
use Rattle.heap_table.specs.Holders.{holder}
use Rattle.heap_table.specs.Pages.{page_slots, pages_written, rid_at}
use Rattle.heap_table.specs.Limits.{pages_most, open_most}
use Rattle.heap_table.specs.declared.open_txn.OpenTxn.{OpenTxn}

pub record HeapState : Type 0 where
  -- the columns
  pub schema : List Kind
  -- the most slots that a page may have, and the most pages
  pub slot_limit : ℕ
  pub page_limit : ℕ
  pub log : List LogRec
  -- the open transactions, in the order of their numbers
  pub active : List OpenTxn
  -- the number of the transaction that was begun last
  pub begun : ℕ
  -- whether no transaction may begin
  pub fenced : Bool
  -- how often rows were given out
  pub visits : ℕ

-- whether a table may have so many slots a page and so many pages
abbrev pub are_limits : ℕ → ℕ → Bool
are_limits slots pages = nat_lt 0 slots && nat_lt 0 pages && nat_le pages pages_most

abbrev pub limits_refusal : ℕ → ℕ → Option Fault
limits_refusal slots pages = if are_limits slots pages then None else Some BadCount

abbrev pub empty_heap : List Kind → ℕ → ℕ → HeapState
empty_heap schema slots pages = record { schema = schema; slot_limit = slots; page_limit = pages; log = []; active = []; begun = 0; fenced = false; visits = 0 }

abbrev pub is_open : List OpenTxn → ℕ → Bool
is_open active txn = list_any (λ t. t.txn == txn) active

abbrev pub is_ending : List OpenTxn → ℕ → Bool
is_ending active txn = list_any (λ t. (t.txn == txn) && t.ending) active

-- why a transaction may not write or commit
abbrev pub txn_refusal : HeapState → ℕ → Option Fault
txn_refusal s txn = if is_open s.active txn then (if is_ending s.active txn then Some TxnEnding else None) else Some NoSuchTxn

-- why one more transaction would be too many: as many are open as may be, or the numbers are used up
abbrev pub number_refusal : HeapState → Option Fault
number_refusal s = if nat_le open_most (length s.active) || (s.begun == 18446744073709551615) then Some TooManyTxns else None

-- why no transaction is begun
abbrev pub begin_refusal : HeapState → Option Fault
begin_refusal s = if s.fenced then Some Fenced else number_refusal s

abbrev pub page_of : HeapState → ℕ → PageValue
page_of s page = record { slots = page_slots s.log page; limit = s.slot_limit }

abbrev pub table_pages : HeapState → List PageValue
table_pages s = map (page_of s) (range_with_len 0 (pages_written s.log))

abbrev pub takes : ℕ → PageValue → Bool
takes size page = is_some (room_for page size)

-- the place on the lowest page that takes the row, else on a new page
abbrev pub place_on : HeapState → ℕ → Option ℕ → Option Rid
place_on s size (Some page) = option_map (rid_at page) (room_for (page_of s page) size)
place_on s size None = if nat_lt (pages_written s.log) s.page_limit then Some (rid_at (pages_written s.log) 0) else None

-- the RID that an insert of so many bytes takes
abbrev pub insert_place : HeapState → ℕ → Option Rid
insert_place s size = place_on s size (position (takes size) (table_pages s))

abbrev pub place_refusal : Option Rid → Option Fault
place_refusal None = Some TableFull
place_refusal (Some rid) = None

-- why a transaction may write no such row, wherever it goes
abbrev pub new_row_refusal : HeapState → ℕ → List Cell → Option Fault
new_row_refusal s txn cells = first_cause (txn_refusal s txn) (shape_refusal s.schema cells)

-- why an insert is refused
abbrev pub insert_refusal : HeapState → ℕ → List Cell → Option Fault
insert_refusal s txn cells = first_cause (new_row_refusal s txn cells) (place_refusal (insert_place s (length (row_bytes cells))))

-- why there is no row to give
abbrev pub row_missing : Option (List Cell) → Option Fault
row_missing None = Some NoSuchRow
row_missing (Some cells) = None

-- why a transaction may not change a RID: another one holds it
abbrev pub held_refusal : ℕ → Option ℕ → Option Fault
held_refusal txn None = None
held_refusal txn (Some other) = if other == txn then None else Some (RowHeld other)

-- why a row of so many bytes does not fit where a row stands
abbrev pub growth_refusal : HeapState → Rid → ℕ → Option Fault
growth_refusal s rid size = if fits_at (page_of s rid.page) rid.slot size then None else Some PageFull

-- why a delete is refused
abbrev pub delete_refusal : HeapState → ℕ → Rid → Option Fault
delete_refusal s txn rid =
    first_cause (txn_refusal s txn) (first_cause (held_refusal txn (holder s.log rid)) (row_missing (live_at s.log rid)))

-- why an update is refused
abbrev pub update_refusal : HeapState → ℕ → Rid → List Cell → Option Fault
update_refusal s txn rid cells =
    first_cause (new_row_refusal s txn cells)
    (first_cause (held_refusal txn (holder s.log rid))
    (first_cause (row_missing (live_at s.log rid)) (growth_refusal s rid (length (row_bytes cells)))))

-- why no write of a transaction is undone
abbrev pub undo_refusal : HeapState → ℕ → Option Fault
undo_refusal s txn = if is_open s.active txn then None else Some NoSuchTxn

abbrev pub without : ℕ → List OpenTxn → List OpenTxn
without txn active = filter (λ t. not (t.txn == txn)) active

-- the open transaction, marked as ending if it is that one
abbrev pub mark : ℕ → OpenTxn → OpenTxn
mark txn t = if t.txn == txn then record t { ending = true } else t

-- what the calls leave
abbrev pub after_begin : HeapState → HeapState
after_begin s = record s { active = s.active ++ record { txn = s.begun + 1; ending = false } ∷ []; begun = s.begun + 1 }

-- transactions may begin from now on, or may not
abbrev pub after_fence : Bool → HeapState → HeapState
after_fence fenced s = record s { fenced = fenced }

-- a record more
abbrev pub logged : HeapState → LogRec → HeapState
logged s rec = record s { log = s.log ++ rec ∷ [] }

abbrev pub after_write : HeapState → ℕ → Rid → Option (List Cell) → HeapState
after_write s txn rid cells = logged s (Write txn rid cells)

abbrev pub after_commit : HeapState → ℕ → HeapState
after_commit s txn = record s { log = s.log ++ Commit txn ∷ []; active = without txn s.active }

abbrev pub after_switch : HeapState → List Outcome → HeapState
after_switch s verdicts = logged s (Switch verdicts)

-- the open transactions once so many writes of that one are left
abbrev pub still_open : ℕ → ℕ → List OpenTxn → List OpenTxn
still_open txn left active = if left == 0 then without txn active else map (mark txn) active

-- the transaction's write of that number is undone; with its last one the transaction ends
abbrev pub after_undo : HeapState → ℕ → ℕ → HeapState
after_undo s txn n = record s {
  log = s.log ++ Undo txn n ∷ [];
  active = still_open txn (standing_count (s.log ++ Undo txn n ∷ []) txn) s.active;
}

-- an undo step of a transaction whose newest standing write is that one; one without a write just ends
abbrev pub after_step : HeapState → ℕ → Option ℕ → HeapState
after_step s txn None = record s { active = without txn s.active }
after_step s txn (Some n) = after_undo s txn n

-- the number of the record that an undo step adds, and how many writes still stand
abbrev pub undone_number : HeapState → Option ℕ → ℕ
undone_number s None = 0
undone_number s (Some n) = length s.log + 1

-- the counter stays at its greatest value
abbrev pub after_visit : HeapState → HeapState
after_visit s = record s { visits = min (s.visits + 1) 18446744073709551615 }

-- the open transactions with a write that stands
abbrev pub busy_txns : HeapState → List OpenTxn
busy_txns s = filter (λ t. nat_lt 0 (standing_count s.log t.txn)) s.active
