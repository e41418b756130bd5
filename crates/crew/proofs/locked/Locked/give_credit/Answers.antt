use Rattle.std.proofs.Common.{Some, subst, sym}
use Rattle.crew.specs.Credits.{CreditIsKept}
use Rattle.crew.specs.declared.locked.credit.Credit.{Credit}
use Rattle.crew.proofs.Credits.{begun_keeps}
use Rattle.crew.proofs.locked.Locked.give_credit.Goals as goal

pub invariant_of-self : goal.invariant_of-self
invariant_of-self g c =
    let live = c.self.inside.live in (
      c.self.invariant.0,
      c.self.invariant.1,
      c.self.invariant.2,
      subst (λ (credit : Credit). CreditIsKept live.state (Some credit)) (sym c.new-credit.ensures)
          (begun_keeps live.state c.entries_left.result c.entries_left.ensures.left c.entries_left.ensures.few),
    )
