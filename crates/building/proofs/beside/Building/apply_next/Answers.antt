use Rattle.std.proofs.Common.{arith, inr}
use Rattle.building.proofs.Applying.{applied_none, its_place}
use Rattle.building.proofs.TakingEntries.{its_order, its_own}
use Rattle.building.proofs.beside.Building.apply_next.Goals as goal

pub returns-then-applied-clause-unchanged : goal.returns-then-applied-clause-unchanged
returns-then-applied-clause-unchanged g c =
    let own = its_own c.args.index c.args.self.now _ c.self.view_is c.self.invariant.6 c.requires.taking c.requires.fine in
    let ordered = its_order c.args.index c.args.self.now _ c.self.view_is c.self.invariant.6 c.requires.taking c.requires.fine in
    applied_none c.args.index c.args.self.now c.requires.taking own ordered

pub returns-then-applied-clause-needed : goal.returns-then-applied-clause-needed
returns-then-applied-clause-needed g c =
    let place = its_place c.args.index c.args.self.now _ _ c.self.view_is c.in-Some.is c.requires.taking in
    let count = c.applied.ensures c.requires.taking.it place in
    inr (record { taking = c.requires.taking; past = omega (arith, count, c.if-applied.true) })
