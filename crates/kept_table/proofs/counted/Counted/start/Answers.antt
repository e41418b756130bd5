use Rattle.kept_table.proofs.Counts.{told_start_sound}
use Rattle.kept_table.proofs.counted.Counted.start.Goals as goal

pub invariant_of-self : goal.invariant_of-self
invariant_of-self g c =
    told_start_sound c.self.inside.pages c.at_start-self-inside.result c.self.inside.leased c.start-started.new.self c.args.choice c.args.quota c.args.plan
    c.start-started.result c.start-started.ensures.started c.start-started.ensures.unchanged c.at_start-self-inside.ensures.fresh
    c.at_start-self-inside.ensures.unchanged c.self.invariant
