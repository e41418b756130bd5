use Rattle.std.proofs.Common.{◌≡◌, Result, Ok, Err, length}
use Rattle.std.specs.Prelude.{IfErr, OnOk}
use Rattle.keybytes.specs.declared.fault.Fault.{Fault}
use Rattle.building.specs.IndexLoads.{HasLoadedAll, LoadsStopped}
use Rattle.crew.specs.Places.{GoesOnWith, stakes_beside}
use Rattle.crew.proofs.Loads.{all_goes_on, all_stakes, stopped_stakes}
use Rattle.crew.proofs.online_build.loading.load_all.Goals as goal

pub returns-in-Ok-clause-goes_on : goal.returns-in-Ok-clause-goes_on
returns-in-Ok-clause-goes_on g c = by_answer c.load_reserved.result.1 c.load_reserved.ensures.loaded where
  by_answer : (told : Result (Unit {0}) Fault) → OnOk told (HasLoadedAll c.args.building c.load_reserved.result.0)
      → OnOk told (GoesOnWith (length c.args.plan.now.specs.items) c.args.plan.now.specs.items c.load_reserved.result.0)
  by_answer (Ok done) loaded = all_goes_on c.args.building c.load_reserved.result.0 loaded c.args.plan.now.specs.items c.requires.goes_on
  by_answer (Err fault) loaded = tt

pub returns-in-Ok-clause-stakes : goal.returns-in-Ok-clause-stakes
returns-in-Ok-clause-stakes g c = by_answer c.load_reserved.result.1 c.load_reserved.ensures.loaded c.load_reserved.ensures.spoiled where
  by_answer : (told : Result (Unit {0}) Fault) → OnOk told (HasLoadedAll c.args.building c.load_reserved.result.0)
      → IfErr told (λ fault. LoadsStopped c.args.building fault c.load_reserved.result.0)
      → stakes_beside c.load_reserved.result.0 ≡ stakes_beside c.args.building
  by_answer (Ok done) loaded stopped = all_stakes c.args.building c.load_reserved.result.0 loaded
  by_answer (Err fault) loaded stopped = stopped_stakes c.args.building fault c.load_reserved.result.0 stopped
