use Rattle.std.proofs.Common.{sym, arith}
use Rattle.building.proofs.LoadsApart.{installed}
use Rattle.building.proofs.loads.install.Goals as goal

pub loop-load-preserved : goal.loop-load-preserved
loop-load-preserved g c =
    let kept = c.loop-load.invariant in
    let all =
    installed c.args.loads.items c.loop-load.loads.items c.pop.new.self.items c.args.indexes.now.items c.loop-load.indexes.items c.in-Some.load c.len.result
    c.into_built.result c.in-Some.ensures.items kept.before kept.done kept.many (sym c.requires) (omega (arith, c.len.ensures, c.pop.new.self.ok)) c.into_built.ensures in
    record { before = all.0; done = all.1; many = all.2 }

pub loop-load-preserved-in-Some : goal.loop-load-preserved-in-Some
loop-load-preserved-in-Some g c =
    let kept = c.loop-load.invariant in
    let all =
    installed c.args.loads.items c.loop-load.loads.items c.pop.new.self.items c.args.indexes.now.items c.loop-load.indexes.items c.in-Some.load c.len.result
    c.into_built.result c.in-Some.ensures.items kept.before kept.done kept.many (sym c.requires) (omega (arith, c.len.ensures, c.pop.new.self.ok)) c.into_built.ensures in
    record { before = all.0; done = all.1; many = all.2 }
