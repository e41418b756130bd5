use Rattle.std.proofs.Common.{◌≡◌}
use Rattle.keybytes.specs.declared.fault.Fault.TheVariants.{SpoolNotEmpty}
use Rattle.crew.specs.Reports.{EndsFor}
use Rattle.crew.specs.Places.{HasPairsLeft}
use Rattle.crew.proofs.Results.{err_if}
use Rattle.crew.proofs.online_build.build_beside.Goals as goal

pub returns-clause-not_empty : goal.returns-clause-not_empty
returns-clause-not_empty g c =
    err_if (EndsFor c.args.plan.now.specs.items) (λ fault. fault ≡ SpoolNotEmpty → HasPairsLeft c.args.building) c.build_started-building.result.1
    (λ fault ends is. absurd (ends.not_full is)) c.build_started-building.ensures.ends

pub returns-clause-busy : goal.returns-clause-busy
returns-clause-busy g c =
    err_if (EndsFor c.args.plan.now.specs.items) _ c.build_started-building.result.1 (λ fault ends. ends.busy) c.build_started-building.ensures.ends
