use Rattle.std.proofs.Common.{◌+◌, ◌∙◌, length, ap, refl}
use Rattle.heap_log.specs.declared.txn_head.TxnHead.{TxnHead}
use Rattle.heap_log.specs.declared.rid_head.RidHead.{RidHead}
use Rattle.heap_log.proofs.Linked.{link_of-write}
use Rattle.heap_log.proofs.Numbers.{last_of-writes, newest_at-writes, newest_standing-writes, number_some}
use Rattle.heap_log.proofs.log.Log.link_of.Goals as goal

pub kept-requires : goal.kept-requires
kept-requires c =
    let log = c.args.self.now.records in
    number_some log _ (newest_standing-writes log c.in-Write.txn _ (ap (λ (head : TxnHead). head.newest) c.txn_head-of_txn.ensures))

pub kept-requires-in-Write : goal.kept-requires-in-Write
kept-requires-in-Write c =
    let log = c.args.self.now.records in
    number_some log _ (newest_at-writes log c.in-Write.rid _ (ap (λ (head : RidHead). head.newest) c.rid_head.ensures))

pub kept-requires-in-Write-2 : goal.kept-requires-in-Write-2
kept-requires-in-Write-2 c =
    let log = c.args.self.now.records in
    number_some log _ (last_of-writes log c.in-Write.txn (length log + 1) _ (ap (λ (head : TxnHead). head.last) c.txn_head-of_txn.ensures))

pub returns-in-Write : goal.returns-in-Write
returns-in-Write c =
    rw c.in-Write.is (link_of-write c.args.self.now.records c.in-Write.txn c.in-Write.rid c.in-Write.row _ refl
    (c.kept.ensures ∙ ap (λ (head : TxnHead). head.newest) c.txn_head-of_txn.ensures)
    (c.kept-in-Write.ensures ∙ ap (λ (head : RidHead). head.newest) c.rid_head.ensures)
    (c.kept-in-Write-2.ensures ∙ ap (λ (head : TxnHead). head.last) c.txn_head-of_txn.ensures))
