-- The heads of transactions by number.
use Rattle.std.specs.Prelude.{◌≡◌, ℕ, ◌<◌, ◌≤◌, List, length, get_or, None}
use Rattle.heap_log.specs.declared.txn_head.TxnHead.{TxnHead}

-- the head of a transaction that wrote nothing
abbrev pub no_txn_head : TxnHead
no_txn_head = record { last = None; newest = None; standing = 0 }

-- the head of a transaction
abbrev pub txn_head_in : List TxnHead → ℕ → TxnHead
txn_head_in heads txn = get_or heads txn no_txn_head

-- the transaction has a place, every one that had one has it still, and the heads are the same
pub record IsTxnReserved (txn : ℕ) (old new : List TxnHead) : Type 0 where
  pub place : txn < length new
  pub kept : length old ≤ length new
  pub heads : (other : ℕ) → txn_head_in new other ≡ txn_head_in old other
