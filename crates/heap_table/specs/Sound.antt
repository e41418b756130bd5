-- What a table's log and open transactions keep between its calls.
use Rattle.std.specs.Prelude.{◌≡◌, ◌<◌, ◌≤◌, ◌&&◌, nat_lt, ℕ, true, false, List, Some, None}
use Rattle.keybytes.specs.declared.rid.Rid.{Rid}
use Rattle.heap_log.specs.declared.record.LogRec.{LogRec}
use Rattle.heap_log.specs.Standing.{record_at, is_write_of, is_write_at, stands_of, standing_count, live_at, row_at, standing_before}
use Rattle.heap_table.specs.HeapState.{HeapState, is_open, held_refusal}
use Rattle.heap_table.specs.Holders.{wrote, committed, is_busy, holder, row_size, room_needed}

-- of two writes at the RID the later one is the transaction's, too, where the earlier one is
abbrev pub WritesAlone : List LogRec → ℕ → Rid → ℕ → ℕ → Type 0
WritesAlone log txn rid n m =
    is_write_of txn (record_at log n) ≡ true → is_write_at rid (record_at log n) ≡ true → is_write_at rid (record_at log m) ≡ true
    → is_write_of txn (record_at log m) ≡ true

-- the row that stood before write n fits the bytes that the RID keeps
abbrev pub RowBeforeFits : List LogRec → Rid → ℕ → Type 0
RowBeforeFits log rid n = row_size (row_at log (standing_before log n)) ≤ room_needed log rid

-- the holds follow the log
pub record HoldsFollowLog (s : HeapState) : Type 0 where
  -- a busy transaction is an open one with a standing write
  pub busy : (txn : ℕ) → is_busy s.log txn ≡ (is_open s.active txn && nat_lt 0 (standing_count s.log txn))
  -- no open transaction has committed
  pub uncommitted : (txn : ℕ) → is_open s.active txn ≡ true → committed s.log txn ≡ false
  -- at most one transaction holds a RID
  pub alone : (txn : ℕ) (rid : Rid) → is_busy s.log txn ≡ true → wrote s.log txn rid ≡ true → holder s.log rid ≡ Some txn
  -- it is open
  pub is_open : (txn : ℕ) (rid : Rid) → holder s.log rid ≡ Some txn → is_open s.active txn ≡ true
  -- and from its first write there on, each write there is its own
  pub held : (txn n m : ℕ) (rid : Rid) → holder s.log rid ≡ Some txn → n < m → WritesAlone s.log txn rid n m
  -- who wrote was begun
  pub begun : (txn : ℕ) (rid : Rid) → wrote s.log txn rid ≡ true → txn ≤ s.begun

-- who may write at a RID: an open transaction, where no other holds the RID
pub record IsWriterAt (s : HeapState) (txn : ℕ) (rid : Rid) : Type 0 where
  pub opened : is_open s.active txn ≡ true
  pub free : held_refusal txn (holder s.log rid) ≡ None

pub record IsSound (s : HeapState) : Type 0 where
  -- who wrote, committed or is open was begun
  pub writers : (txn : ℕ) (rid : Rid) → wrote s.log txn rid ≡ true → txn ≤ s.begun
  pub committers : (txn : ℕ) → committed s.log txn ≡ true → txn ≤ s.begun
  pub openers : (txn : ℕ) → is_open s.active txn ≡ true → txn ≤ s.begun
  -- no open transaction has committed
  pub uncommitted : (txn : ℕ) → is_open s.active txn ≡ true → committed s.log txn ≡ false
  -- of those that wrote, the open ones are the busy ones
  pub busy : (txn : ℕ) (rid : Rid) → wrote s.log txn rid ≡ true → is_busy s.log txn ≡ is_open s.active txn
  -- from an open transaction's first write at a RID on, each write there is its own
  pub held : (txn n m : ℕ) (rid : Rid) → is_open s.active txn ≡ true → n < m → WritesAlone s.log txn rid n m

-- the rows that stand and those that an undo would bring back fit the bytes that their RIDs keep
pub record UndoFits (log : List LogRec) : Type 0 where
  pub live : (rid : Rid) → row_size (live_at log rid) ≤ room_needed log rid
  pub before : (txn n : ℕ) (rid : Rid) → holder log rid ≡ Some txn → stands_of log txn n ≡ true → is_write_at rid (record_at log n) ≡ true
      → RowBeforeFits log rid n
