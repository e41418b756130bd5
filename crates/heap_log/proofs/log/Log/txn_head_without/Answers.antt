use Rattle.std.proofs.Common.{◌≡◌, ◌<◌, ◌∙◌, sym, ap, arith, Option, Bool, true}
use Rattle.std.specs.Prelude.{not}
use Rattle.std.proofs.lemmas.Bool.{and_parts, cond-true}
use Rattle.heap_log.specs.declared.record.LogRec.{LogRec}
use Rattle.heap_log.specs.declared.txn_head.TxnHead.{TxnHead}
use Rattle.heap_log.specs.Links.{stands_by}
use Rattle.heap_log.specs.Standing.{is_number, is_write_of, last_below, newest_standing, record_at, standing_count, stands_of, undone}
use Rattle.heap_log.proofs.Headed.{on_chain-of, standing-some}
use Rattle.heap_log.proofs.log.Log.txn_head_without.Goals as goal

pub overflow_sub-result : goal.overflow_sub-result
overflow_sub-result c =
    let some : 0 < standing_count c.args.self.now.records c.args.txn = standing-some c.args.self.now.records c.args.txn c.args.number c.requires in
    rw c.txn_head-head.ensures (omega (arith, some))

pub returns-then-is_number-clause-newest : goal.returns-then-is_number-clause-newest
returns-then-is_number-clause-newest c =
    let by =
    and_parts (is_write_of c.args.txn (record_at c.args.self.now.records c.args.number)) (not (undone c.args.self.now.records c.args.number)) c.requires in
    let newest : is_number c.args.number (newest_standing c.args.self.now.records c.args.txn) ≡ true =
    ap (λ (head : TxnHead). is_number c.args.number head.newest) (sym c.txn_head-head.ensures) ∙ sym c.is_number.ensures ∙ c.if-is_number.true in
    c.before_on.ensures
    ∙ ap (λ (passes : Option LogRec → Bool). last_below (stands_by passes c.args.self.now.records) c.args.number)
    (on_chain-of c.args.txn (record_at c.args.self.now.records c.args.number) by.0)
    ∙ sym (cond-true _ (last_below (stands_of c.args.self.now.records c.args.txn) c.args.number) (newest_standing c.args.self.now.records c.args.txn) newest)
