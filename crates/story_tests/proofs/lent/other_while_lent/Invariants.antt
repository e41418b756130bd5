use Rattle.std.specs.Prelude.{List}
use Rattle.side_file.specs.Ends.{RingId}
use Rattle.building.specs.BuildingValue.{BuildingValue}
use Rattle.building.specs.Lent.{AreBack}
use Rattle.story_tests.proofs.lent.other_while_lent.Given as goal

-- they are all back, if they were at first
abbrev pub invariant-loop-number : goal.invariant-loop-number
invariant-loop-number g l = (rings : List RingId) (rest : BuildingValue) → AreBack rings rest l.fn.workers.items → AreBack rings rest l.workers.items
