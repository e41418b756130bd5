-- Which of several causes it was.
use Rattle.std.proofs.Common.{◌≡◌, Bool, true, false, Option, None, Some, sym, subst, inl, inr}
use Rattle.std.specs.Prelude.{◌⊎◌, IfSome}
use Rattle.std.proofs.lemmas.Option.{same_Some}
use Rattle.keybytes.specs.Faults.{first_cause}
use Rattle.keybytes.specs.declared.fault.Fault.{Fault}
use Rattle.build_events.specs.BuildSteps.{cause_if}
use Rattle.build_events.specs.Steps.{IsWorkWant}

pub if_told : (test : Bool) (told fault : Fault) → cause_if test told ≡ Some fault → fault ≡ told
if_told true told fault is = sym (same_Some told fault is)
if_told false told fault is = absurd (cc)

-- the first cause is that one, or it is none and the second is
pub first_or : (first rest : Option Fault) (fault : Fault) → first_cause first rest ≡ Some fault → (first ≡ Some fault) ⊎ (rest ≡ Some fault)
first_or None rest fault is = inr is
first_or (Some told) rest fault is = inl is

pub spoiled_want : (spoiled : Option Fault) (fault : Fault) → IfSome spoiled IsWorkWant → spoiled ≡ Some fault → IsWorkWant fault
spoiled_want spoiled fault want is = subst (λ (o : Option Fault). IfSome o IsWorkWant) is want
