use Rattle.std.proofs.Common.{◌≡◌, ◌⊎◌, OnErr, refl, subst, arith}
use Rattle.building.specs.Working.{CountsNoMore, HasApplied, MayTakeMemoryFor}
use Rattle.building.proofs.Applying.{applied_more, applied_none, can_go_on, on_err, same_taking, stops_behind}
use Rattle.building.proofs.TakingEntries.{its_order, its_own}
use Rattle.building.proofs.beside.Building.apply.Goals as goal

pub loop-init : goal.loop-init
loop-init g c =
    let own = its_own c.args.index c.args.self.now _ c.self.view_is c.self.invariant.6 c.requires.taking c.requires.fine in
    let ordered = its_order c.args.index c.args.self.now _ c.self.view_is c.self.invariant.6 c.requires.taking c.requires.fine in
    applied_none c.args.index c.args.self.now c.requires.taking own ordered

pub apply_next-requires : goal.apply_next-requires
apply_next-requires g c =
    let same = same_taking c.args.index c.args.self.now c.loop.invariant.taking c.requires.taking in
    can_go_on c.args.index c.args.self.now c.loop.self c.loop.counter c.loop.invariant c.args.count (rw same.0 c.requires.fine) (rw same.3 c.requires.seen) c.loop-test.true

pub returns-in_err-apply_next-clause-some : goal.returns-in_err-apply_next-clause-some
returns-in_err-apply_next-clause-some g c =
    let same = same_taking c.args.index c.args.self.now c.loop.invariant.taking c.requires.taking in
    on_err c.from_residual.result _
    (stops_behind c.args.index c.args.self.now c.loop.self c.loop.counter c.loop.invariant c.args.count c.apply_next.new.self c.loop-test.true
    (rw same.3 c.requires.seen)
    (subst (λ r. OnErr r (HasApplied c.args.index c.loop.self 0 c.apply_next.new.self)) c.in_err-apply_next.was c.apply_next.ensures.unchanged)
    (subst (λ r. OnErr r (MayTakeMemoryFor c.args.index 0 c.loop.self ⊎ CountsNoMore c.args.index 0 c.loop.self)) c.in_err-apply_next.was c.apply_next.ensures.needed))

pub loop-preserved : goal.loop-preserved
loop-preserved g c =
    let same = same_taking c.args.index c.args.self.now c.loop.invariant.taking c.requires.taking in
    applied_more c.args.index c.args.self.now c.loop.self c.loop.counter c.loop.invariant c.apply_next.new.self 1 (rw same.3 (omega (arith, c.requires.seen, c.loop-test.true)))
    c.in_ok-apply_next.ensures.applied

pub returns-clause-applied : goal.returns-clause-applied
returns-clause-applied g c = (
  refl,
  subst (λ n. HasApplied c.args.index c.args.self.now n c.loop.self)
      (let all : c.loop.counter ≡ c.args.count = omega (arith, c.loop-test.false, c.loop.auto.counter-end) in all) c.loop.invariant,
)
