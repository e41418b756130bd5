use Rattle.crew.proofs.online_build.finish.Goals as goal

pub load_all-building-requires-clause-loads : goal.load_all-building-requires-clause-loads
load_all-building-requires-clause-loads g c = λ κs within.
    (rw c.in_default.is at c.end_scan-ended.ensures.loads) c.args.plan.now.specs.items c.requires.goes_on c.requires.scans
