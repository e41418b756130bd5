use Rattle.std.proofs.Common.{sym, ap, arith}
use Rattle.std.proofs.lemmas.Bool.{not-true, not-false}
use Rattle.heap_log.specs.LogValue.{LogValue}
use Rattle.heap_log.specs.Links.{AreLinks}
use Rattle.heap_log.specs.Standing.{record_at}
use Rattle.heap_log.proofs.Linked.{Linked, walk_at, walk_ends, walk_hits, walk_goes, walk_smaller}
use Rattle.heap_log.proofs.log.Log.before_on.Goals as goal

pub overflow_sub-earlier : goal.overflow_sub-earlier
overflow_sub-earlier c =
    let h : AreLinks c.args.self.now.records c.self.inside.links.items = rw (ap (λ (v : LogValue). v.records) c.self.view_is) at c.self.invariant.links in
    let leads = rw c.in-Some.is at c.loop-place.invariant in
    (walk_at _ _ h c.args.chain (record_at c.args.self.now.records c.args.number) _ _ leads).low

pub index-link-requires : goal.index-link-requires
index-link-requires c =
    let h : AreLinks c.args.self.now.records c.self.inside.links.items = rw (ap (λ (v : LogValue). v.records) c.self.view_is) at c.self.invariant.links in
    let leads = rw c.in-Some.is at c.loop-place.invariant in
    let at : Linked c.args.self.now.records c.self.inside.links.items c.in-Some.earlier =
    walk_at _ _ h c.args.chain (record_at c.args.self.now.records c.args.number) _ _ leads in
    omega (arith, at.inside)

pub returns-then-not-link : goal.returns-then-not-link
returns-then-not-link c =
    let h : AreLinks c.args.self.now.records c.self.inside.links.items = rw (ap (λ (v : LogValue). v.records) c.self.view_is) at c.self.invariant.links in
    let leads = rw c.in-Some.is at c.loop-place.invariant in
    sym (walk_hits _ _ h c.args.chain (record_at c.args.self.now.records c.args.number) _ _ leads c.index-link.result.now c.index-link.ensures
    (not-true _ c.if-not-link.true))

pub loop-place-smaller : goal.loop-place-smaller
loop-place-smaller c =
    let h : AreLinks c.args.self.now.records c.self.inside.links.items = rw (ap (λ (v : LogValue). v.records) c.self.view_is) at c.self.invariant.links in
    let leads = rw c.in-Some.is at c.loop-place.invariant in
    rw (c.in-Some.is, c.before-place-in-Some.ensures)
    (walk_smaller _ _ h c.args.chain (record_at c.args.self.now.records c.args.number) _ _ leads c.index-link.result.now c.index-link.ensures)

pub loop-place-preserved : goal.loop-place-preserved
loop-place-preserved c =
    let h : AreLinks c.args.self.now.records c.self.inside.links.items = rw (ap (λ (v : LogValue). v.records) c.self.view_is) at c.self.invariant.links in
    let leads = rw c.in-Some.is at c.loop-place.invariant in
    rw c.before-place-in-Some.ensures (walk_goes _ _ h c.args.chain (record_at c.args.self.now.records c.args.number) _ _ leads c.index-link.result.now
    c.index-link.ensures (not-false _ c.if-not-link.false))

pub returns : goal.returns
returns c = sym (walk_ends _ _ _ (rw c.in_default.is at c.loop-place.invariant))
