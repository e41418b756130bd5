-- What a log keeps of each transaction and each RID.
use Rattle.std.specs.Prelude.{◌≡◌, ℕ, ◌+◌, ◌≤◌, ◌==◌, if◌then◌else◌, List, length, Option, Some, None}
use Rattle.chunk_list.specs.ChunkValue.{ChunkValue}
use Rattle.keybytes.specs.declared.rid.Rid.{Rid}
use Rattle.heap_log.specs.declared.record.LogRec.{LogRec}
use Rattle.heap_log.specs.declared.link.Link.{Link}
use Rattle.heap_log.specs.declared.txn_head.TxnHead.{TxnHead}
use Rattle.heap_log.specs.declared.rid_head.RidHead.{RidHead}
use Rattle.heap_log.specs.declared.heads.Heads.{Heads}
use Rattle.heap_log.specs.Links.{AreLinks}
use Rattle.heap_log.specs.PageHeads.{rid_head_in}
use Rattle.heap_log.specs.TxnHeads.{txn_head_in}
use Rattle.keybytes.specs.Rids.{same_rid}
use Rattle.heap_log.specs.Standing.{newest_standing, standing_count, newest_at, last_of, last_at}

-- what the log says of a transaction, of a RID
abbrev pub txn_head : List LogRec → ℕ → TxnHead
txn_head log txn = record { last = last_of log txn (length log + 1); newest = newest_standing log txn; standing = standing_count log txn }

abbrev pub rid_head : List LogRec → Rid → RidHead
rid_head log rid = record { last = last_at log rid (length log + 1); newest = newest_at log rid }

-- the head of a transaction, of a RID, once those heads are set
abbrev pub with_txn : Option Heads → ℕ → TxnHead → TxnHead
with_txn None txn old = old
with_txn (Some heads) txn old = if heads.txn == txn then heads.of_txn else old

abbrev pub with_rid : Option Heads → Rid → RidHead → RidHead
with_rid None rid old = old
with_rid (Some heads) rid old = if same_rid heads.rid rid then heads.at_rid else old

-- setting those heads is all that the new log changes
pub record AreHeadsAfter (old new : List LogRec) (heads : Option Heads) : Type 0 where
  pub txns : (txn : ℕ) → txn_head new txn ≡ with_txn heads txn (txn_head old txn)
  pub rids : (rid : Rid) → rid_head new rid ≡ with_rid heads rid (rid_head old rid)

-- links and heads go with the records, and there is room for that many more records, with a link for each
pub record IsKept (entries : ChunkValue LogRec) (beside : ChunkValue Link) (of_txns : List TxnHead) (at_rids : List (List RidHead)) (room : ℕ) : Type 0 where
  pub links : AreLinks entries.items beside.items
  pub txns : (txn : ℕ) → txn_head_in of_txns txn ≡ txn_head entries.items txn
  pub rids : (rid : Rid) → rid_head_in at_rids rid ≡ rid_head entries.items rid
  pub records_room : room ≤ entries.room
  pub links_room : room ≤ beside.room
