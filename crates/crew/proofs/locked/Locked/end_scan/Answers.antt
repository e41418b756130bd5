use Rattle.std.proofs.Common.{subst}
use Rattle.live_lemmas.specs.Switching.{HaveAll, IsPartOf}
use Rattle.crew.specs.Credits.{LockedValue, live_in}
use Rattle.crew.proofs.locked.Locked.end_scan.Goals as goal

pub returns-clause-all : goal.returns-clause-all
returns-clause-all g c =
    subst (λ (l : LockedValue). IsPartOf (live_in l) c.args.building.now × HaveAll (live_in l) c.args.building.now) c.self.view_is
    c.in_ok-end_scan.ensures.all
