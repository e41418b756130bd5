use Rattle.builder_core.proofs.Looks.{loaded_is}
use Rattle.builder_core.proofs.core_steps.Core.loaded.Goals as goal

pub returns-in-Some : goal.returns-in-Some
returns-in-Some g c =
    loaded_is c.args.self.now c.self.inside.live c.self.inside.building c.self.view_is c.in-Some.work.now c.loaded_of.result c.in-Some.ensures c.loaded_of.ensures
