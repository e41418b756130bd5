-- The first of two causes.
use Rattle.std.proofs.Common.{◌≡◌, Option, None, Some, refl}
use Rattle.keybytes.specs.Faults.{first_cause}
use Rattle.keybytes.specs.declared.fault.Fault.{Fault}

-- where it is none, neither stands
pub both_none : (a b : Option Fault) → first_cause a b ≡ None → (a ≡ None) × (b ≡ None)
both_none None b none = (refl, none)
both_none (Some fault) b none = absurd (cc)
