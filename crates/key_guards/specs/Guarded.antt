-- The guards of one unique index, as their owner sees them.
use Rattle.std.specs.Prelude.{◌≡◌, ◌==◌, ℕ, position, get_or, List, Option, Some, None}
use Rattle.keybytes.specs.Keys.{KeySpecValue}
use Rattle.keybytes.specs.declared.cell.Cell.{Cell}
use Rattle.keybytes.specs.declared.rid.Rid.{Rid}
use Rattle.heap_log.specs.declared.record.LogRec.{LogRec}
use Rattle.heap_log.specs.Growing.{UndoesNameEarlier}
use Rattle.heap_log.specs.Standing.{live_at}
use Rattle.heap_table.specs.HeapState.{HeapState}
use Rattle.heap_table.specs.Sound.{HoldsFollowLog, IsWriterAt}
use Rattle.key_guards.specs.TxnGuards.{TxnValue, CanTake}
use Rattle.key_guards.specs.UniqueKeys.{KeysStayUnique}
use Rattle.key_guards.specs.KeyRefusals.{key_refusal}
use Rattle.key_guards.specs.GuardLists.{AreGuards}

pub record GuardsValue : Type 0 where
  pub txns : List TxnValue

-- there is memory for one more guard, of that transaction on that key
abbrev pub HasRoomFor : GuardsValue → ℕ → List ℕ → Type 0
HasRoomFor v txn key =
    (at : ℕ) × (position (λ t. t.txn == txn) v.txns ≡ Some at) × ((d : TxnValue) → CanTake key (get_or v.txns at d))

-- no rollback gives two rows one key, and these are the guards that see to it
pub record IsGuarded (spec : KeySpecValue) (log : List LogRec) (v : GuardsValue) : Type 0 where
  pub unique : KeysStayUnique spec log
  pub listed : AreGuards spec log v.txns

-- the table lets the transaction write that row there, and no key refuses it
pub record IsLetIn (spec : KeySpecValue) (index : ℕ) (s : HeapState) (txn : ℕ) (rid : Rid) (row : Option (List Cell)) : Type 0 where
  pub holds : HoldsFollowLog s
  pub undos : UndoesNameEarlier s.log
  pub writer : IsWriterAt s txn rid
  pub accepted : key_refusal index spec s.log txn (live_at s.log rid) row ≡ None
