use Rattle.std.proofs.Common.{ap, ◌∙◌}
use Rattle.heap_log.specs.LogValue.{LogValue}
use Rattle.heap_log.specs.Links.{AreLinks}
use Rattle.heap_log.specs.Standing.{record_at, txn_of}
use Rattle.heap_log.proofs.Linked.{linked}
use Rattle.heap_log.proofs.Numbers.{last_of-writes}
use Rattle.heap_log.proofs.log.Log.previous_of.Goals as goal

pub returns-clause-value : goal.returns-clause-value
returns-clause-value c =
    let h : AreLinks c.args.self.now.records c.self.inside.links.items = rw (ap (λ (v : LogValue). v.records) c.self.view_is) at c.self.invariant.links in
    c.number_in.ensures ∙ (linked _ _ h c.args.number c.requires).previous c.index.result.now c.index.ensures

pub returns-clause-write : goal.returns-clause-write
returns-clause-write c =
    let h : AreLinks c.args.self.now.records c.self.inside.links.items = rw (ap (λ (v : LogValue). v.records) c.self.view_is) at c.self.invariant.links in
    last_of-writes c.args.self.now.records (txn_of (record_at c.args.self.now.records c.args.number)) c.args.number _
    (c.number_in.ensures ∙ (linked _ _ h c.args.number c.requires).previous c.index.result.now c.index.ensures)
