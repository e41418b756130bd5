use Rattle.std.proofs.Common.{◌≡◌, ◌∙◌, sym, ap, true}
use Rattle.std.specs.Prelude.{not}
use Rattle.std.proofs.lemmas.Bool.{and_parts, cond-true}
use Rattle.keybytes.specs.declared.rid.Rid.{Rid}
use Rattle.heap_log.specs.declared.rid_head.RidHead.{RidHead}
use Rattle.heap_log.specs.Standing.{is_number, is_write_at, last_below, newest_at, record_at, stands_at, undone}
use Rattle.heap_log.proofs.Records.{rid_of-write}
use Rattle.heap_log.proofs.log.Log.rid_head_without.Goals as goal

pub returns-then-is_number-clause-newest : goal.returns-then-is_number-clause-newest
returns-then-is_number-clause-newest c =
    let there =
    and_parts (is_write_at c.args.rid (record_at c.args.self.now.records c.args.number)) (not (undone c.args.self.now.records c.args.number)) c.requires in
    let newest : is_number c.args.number (newest_at c.args.self.now.records c.args.rid) ≡ true =
    ap (λ (head : RidHead). is_number c.args.number head.newest) (sym c.rid_head-head.ensures) ∙ sym c.is_number.ensures ∙ c.if-is_number.true in
    c.before-then-is_number.ensures.value
    ∙ ap (λ (rid : Rid). last_below (stands_at c.args.self.now.records rid) c.args.number)
    (rid_of-write c.args.rid (record_at c.args.self.now.records c.args.number) there.0)
    ∙ sym (cond-true _ (last_below (stands_at c.args.self.now.records c.args.rid) c.args.number) (newest_at c.args.self.now.records c.args.rid) newest)
