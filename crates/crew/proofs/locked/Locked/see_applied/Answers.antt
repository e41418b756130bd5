use Rattle.crew.proofs.Credits.{portion_keeps}
use Rattle.crew.proofs.locked.Locked.see_applied.Goals as goal

pub invariant_of-self : goal.invariant_of-self
invariant_of-self g c = (
  c.self.invariant.0,
  c.self.invariant.1,
  c.self.invariant.2,
  portion_keeps c.self.inside.live.state c.self.inside.credit c.in-Some.credit c.once_applied.result c.args.count c.in-Some.is c.once_applied.ensures
      c.self.invariant.3,
)
