-- Why the workers that come back from their threads were stopped.
use Rattle.std.specs.Prelude.{List, [], ◌∷◌, Option, None}
use Rattle.keybytes.specs.Faults.{first_cause}
use Rattle.keybytes.specs.declared.fault.Fault.{Fault}

-- the first of these faults that there is
abbrev pub first_fault : List (Option Fault) → Option Fault
first_fault [] = None
first_fault (fault ∷ faults) = first_cause fault (first_fault faults)
