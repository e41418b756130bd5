use Rattle.builder_core.proofs.Looks.{unloaded_is}
use Rattle.builder_core.proofs.core_steps.Core.first_unloaded.Goals as goal

pub returns-in-Some : goal.returns-in-Some
returns-in-Some g c =
    unloaded_is c.args.self.now c.self.inside.live c.self.inside.building c.self.view_is c.in-Some.work.now c.first_unloaded.result c.in-Some.ensures c.first_unloaded.ensures
