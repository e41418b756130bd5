-- What a refusal says beside its number.
use Rattle.keybytes.specs.declared.fault.Fault.{Fault}
use Rattle.keybytes.specs.declared.fault.Fault.TheVariants.{RowHeld, Duplicate, KeyHeld, NotScanned, NotLoaded, Behind, Busy, NotSealed}
use Rattle.sfbuild_c.specs.Places.{no_place, place_of}
use Rattle.sfbuild_c.specs.declared.cause.Cause.{Cause}

-- it says nothing
abbrev pub no_cause : Cause
no_cause = record { index = 0; number = 0; rid = no_place }

-- the index, the number and the place that the fault names
abbrev pub cause_of : Fault → Cause
cause_of (RowHeld txn) = record no_cause { number = txn }
cause_of (Duplicate index rid) = record no_cause { index = index; rid = place_of rid }
cause_of (KeyHeld index txn) = record no_cause { index = index; number = txn }
cause_of (NotScanned range) = record no_cause { number = range }
cause_of (NotLoaded index) = record no_cause { index = index }
cause_of (Behind left) = record no_cause { number = left }
cause_of (Busy transactions) = record no_cause { number = transactions }
cause_of (NotSealed worker) = record no_cause { number = worker }
cause_of _ = no_cause
