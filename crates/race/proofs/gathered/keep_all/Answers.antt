use Rattle.std.proofs.Common.{[], sym, ◌∙◌}
use Rattle.std.proofs.lemmas.List.{nil_from_length}
use Rattle.std.specs.Vec.Iter.{into_iter_items}
use Rattle.race.proofs.Gathering.{kept_all, kept_next, kept_none, kept_pushed}
use Rattle.race.proofs.gathered.keep_all.Goals as goal

pub loop-receipt-init : goal.loop-receipt-init
loop-receipt-init g c = (tt, tt, [], c.into_iter-receipt-iterator.ensures.into_iter_gives.0, kept_none c.args.kept.now.items)

pub loop-receipt-preserved-in-Some : goal.loop-receipt-preserved-in-Some
loop-receipt-preserved-in-Some g c =
    let i = c.loop-receipt.invariant in
    let next = kept_next c.args.kept.now.items c.args.receipts.items i.2 (into_iter_items c.loop-receipt.receipt-iterator) (into_iter_items c.next.new.self)
    c.loop-receipt.kept.items c.push-kept.new.self.items c.in-Some.receipt i.3 c.in-Some.ensures.steps.0 i.4
    (kept_pushed _ c.loop-receipt.kept.items c.push-kept.new.self.items c.in-Some.receipt c.push-kept.ensures.items) in
    (tt, tt, next.0, next.1, next.2)

pub loop-receipt-preserved : goal.loop-receipt-preserved
loop-receipt-preserved g c =
    let i = c.loop-receipt.invariant in
    let next = kept_next c.args.kept.now.items c.args.receipts.items i.2 (into_iter_items c.loop-receipt.receipt-iterator) (into_iter_items c.next.new.self)
    c.loop-receipt.kept.items c.push-kept.new.self.items c.in-Some.receipt i.3 c.in-Some.ensures.steps.0 i.4
    (kept_pushed _ c.loop-receipt.kept.items c.push-kept.new.self.items c.in-Some.receipt c.push-kept.ensures.items) in
    (tt, tt, next.0, next.1, next.2)

pub returns : goal.returns
returns g c =
    let i = c.loop-receipt.invariant in
    let none = nil_from_length (into_iter_items c.loop-receipt.receipt-iterator) (sym c.loop-receipt.receipt-iterator.rest.ok.0 ∙ c.in-None.ensures.steps.0) in
    kept_all c.args.kept.now.items c.args.receipts.items i.2 (into_iter_items c.loop-receipt.receipt-iterator) c.loop-receipt.kept.items i.3 none i.4
