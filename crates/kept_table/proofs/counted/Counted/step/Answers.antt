use Rattle.std.proofs.Common.{subst, sym}
use Rattle.kept_table.specs.declared.page_count.PageCount.{PageCount}
use Rattle.kept_table.proofs.Counts.{IsSound, step_sound}
use Rattle.kept_table.proofs.counted.Counted.step.Goals as goal

pub invariant_of-self : goal.invariant_of-self
invariant_of-self g c =
    subst (λ (count : PageCount). IsSound count c.step-reply.new.self) (sym c.after-self-inside.ensures)
    (step_sound c.self.inside.pages c.self.inside.leased c.step-reply.new.self c.args.event c.step-reply.result c.requires c.step-reply.ensures.step
    c.self.invariant)
