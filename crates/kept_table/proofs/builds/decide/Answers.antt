use Rattle.kept_table.proofs.Switches.{shared_of_copies}
use Rattle.kept_table.proofs.builds.decide.Goals as goal

pub new-requires : goal.new-requires
new-requires g c =
    shared_of_copies c.args.counted.now.live.build c.in_ok-specs.specs.items c.in_ok-number.verdicts c.in_ok-specs.ensures.ok c.in_ok-number.ensures.keys
