-- The phases of a run.
use Rattle.std.specs.Prelude.{Bool, true, false}
use Rattle.bench.specs.declared.phase.Phase.{Phase}
use Rattle.bench.specs.declared.phase.Phase.TheVariants as phase

-- the time of the build has that of the phase in it
abbrev pub is_of_build : Phase → Bool
is_of_build phase.Fill = false
is_of_build phase.UpdatesAlone = false
is_of_build phase.Start = true
is_of_build phase.Scan = true
is_of_build phase.Digest = true
is_of_build phase.Updates = false
is_of_build phase.Seal = true
is_of_build phase.Load = true
is_of_build phase.CatchUp = true
is_of_build phase.Switch = true
is_of_build phase.Build = false
is_of_build phase.LookUps = false
is_of_build phase.Inserts = false
is_of_build phase.UpdatesReady = false
