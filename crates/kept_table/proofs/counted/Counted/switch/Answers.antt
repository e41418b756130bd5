use Rattle.build_events.specs.declared.reply.Reply.TheVariants.{Switched}
use Rattle.kept_table.proofs.Counts.{told_switch_sound}
use Rattle.kept_table.proofs.counted.Counted.switch.Goals as goal

pub invariant_of-self : goal.invariant_of-self
invariant_of-self g c =
    told_switch_sound c.self.inside.pages c.self.inside.leased c.switch.new.self (λ told. Switched told.0 told.1) c.switch.result
    c.switch.ensures.decided c.switch.ensures.refused c.self.invariant
