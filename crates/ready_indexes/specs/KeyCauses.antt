-- Why a transaction may not write a row, for the sake of the ready indexes that are unique.
use Rattle.std.specs.List.{All}
use Rattle.std.specs.Prelude.{◌≡◌, ℕ, ◌+◌, true, if◌then◌else◌, List, [], ◌∷◌, Option, Some, None}
use Rattle.keybytes.specs.Faults.{first_cause}
use Rattle.keybytes.specs.Cells.{fits}
use Rattle.keybytes.specs.Keys.{KeySpecValue, indexed_key}
use Rattle.keybytes.specs.declared.cell.Cell.{Cell}
use Rattle.keybytes.specs.declared.fault.Fault.{Fault}
use Rattle.keybytes.specs.declared.rid.Rid.{Rid}
use Rattle.heap_log.specs.declared.record.LogRec.{LogRec}
use Rattle.heap_table.specs.HeapState.{HeapState}
use Rattle.key_guards.specs.KeyRefusals.{key_refusal, rid_with, other_guard}
use Rattle.key_guards.specs.UniqueKeys.{UniqueKeysAreGuarded}
use Rattle.ready_indexes.specs.Following.{GuardedIndex, Follows}
use Rattle.ready_indexes.specs.Indexes.{ReadyValue}

-- why an index under that number refuses to have the new row in the place of the old one: it is unique, and another row has the key, or another
-- transaction may give it back
abbrev pub index_cause : ℕ → KeySpecValue → List LogRec → ℕ → Option (List Cell) → Option (List Cell) → Option Fault
index_cause number spec log txn old new = if spec.unique then key_refusal number spec log txn old new else None

-- why the transaction may not put the new row in the place of the old one: the first refusal among these indexes, numbered from `number`
abbrev pub keys_refusal : ℕ → List ReadyValue → List LogRec → ℕ → Option (List Cell) → Option (List Cell) → Option Fault
keys_refusal number [] log txn old new = None
keys_refusal number (index ∷ ready) log txn old new =
    first_cause (index_cause number index.spec log txn old new) (keys_refusal (number + 1) ready log txn old new)

-- the unique ones keep their keys apart, now and after any rollback
abbrev pub KeysAreGuarded : List LogRec → List ReadyValue → Type 0
KeysAreGuarded log ready = All (λ index. index.spec.unique ≡ true → UniqueKeysAreGuarded index.spec log) ready

-- a unique index follows the table, and the row fits its columns
pub record MayAsk (heap : HeapState) (it : GuardedIndex) (cells : List Cell) : Type 0 where
  pub follows : Follows heap.schema heap.log it
  pub unique : it.index.spec.unique ≡ true
  pub fits : fits heap.schema cells ≡ true

-- what is found for a key, where there is one
abbrev pub found_for : {A : Type 0} → (List ℕ → Option A) → Option (List ℕ) → Option A
found_for found None = None
found_for found (Some key) = found key

-- these are the row that has the key that the index has of these cells, if it has one, and another transaction that may give it back
pub record AreFound (spec : KeySpecValue) (log : List LogRec) (txn : ℕ) (cells : List Cell) (holder : Option Rid) (guard : Option ℕ) : Type 0 where
  pub holder_is : holder ≡ found_for (rid_with spec log) (indexed_key spec cells)
  pub guard_is : guard ≡ found_for (other_guard spec log txn) (indexed_key spec cells)
