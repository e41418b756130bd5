use Rattle.std.proofs.Common.{◌≡◌, ◌+◌, ap, arith, length, refl}
use Rattle.heap_log.specs.LogValue.{LogValue}
use Rattle.heap_log.specs.Links.{AreLinks}
use Rattle.heap_log.proofs.Headed.{heads-plain, heads-write}
use Rattle.heap_log.proofs.Growing.{undone-past}
use Rattle.heap_log.proofs.log.Log.heads_after.Goals as goal

pub returns-in-Write-clause-heads : goal.returns-in-Write-clause-heads
returns-in-Write-clause-heads c =
    let view = ap (λ (v : LogValue). v.records) c.self.view_is in
    let h : AreLinks c.args.self.now.records c.self.inside.links.items = rw view at c.self.invariant.links in
    let number : c.len-number.result + 1 ≡ length c.args.self.now.records + 1 = omega (arith, ap length view, c.len-number.ensures.value) in
    rw c.in-Write.is (heads-write c.args.self.now.records c.in-Write.txn c.in-Write.rid c.in-Write.row c.heads_with.result
    (undone-past _ h.earlier (length c.args.self.now.records + 1) (omega arith)) c.heads_with.ensures.txn c.heads_with.ensures.rid
    (rw number at c.heads_with.ensures.last) (rw number at c.heads_with.ensures.newest) c.heads_with.ensures.standing
    (rw number at c.heads_with.ensures.at_rid))

pub returns-in-Commit-clause-heads : goal.returns-in-Commit-clause-heads
returns-in-Commit-clause-heads c =
    let h : AreLinks c.args.self.now.records c.self.inside.links.items = rw (ap (λ (v : LogValue). v.records) c.self.view_is) at c.self.invariant.links in
    rw c.in-Commit.is (heads-plain c.args.self.now.records _ (undone-past _ h.earlier (length c.args.self.now.records + 1) (omega arith)) tt (λ k. refl)
    (λ txn. refl) (λ rid. refl))

pub returns-in-Switch-clause-heads : goal.returns-in-Switch-clause-heads
returns-in-Switch-clause-heads c =
    let h : AreLinks c.args.self.now.records c.self.inside.links.items = rw (ap (λ (v : LogValue). v.records) c.self.view_is) at c.self.invariant.links in
    rw c.in-Switch.is (heads-plain c.args.self.now.records _ (undone-past _ h.earlier (length c.args.self.now.records + 1) (omega arith)) tt (λ k. refl)
    (λ txn. refl) (λ rid. refl))
