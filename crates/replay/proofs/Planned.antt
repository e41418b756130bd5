-- What a command `start` is refused for before there is a plan.
use Rattle.std.proofs.Common.{◌≡◌, Bool, true, false, not, Option, Some, None, inl, inr, refl, ap, sym, ◌∙◌, subst}
use Rattle.keybytes.specs.Faults.{first_cause, RefusedFor}
use Rattle.keybytes.specs.declared.fault.Fault.{Fault}
use Rattle.keybytes.specs.declared.fault.Fault.TheVariants.{BadCount, BuildRunning}
use Rattle.build_events.specs.BuildSteps.{cause_if}
use Rattle.build_events.specs.CoreState.{CoreState}
use Rattle.run_spool.specs.declared.choice.SpoolChoice.{SpoolChoice}
use Rattle.script.specs.declared.start.Start.{Start}
use Rattle.replay.specs.Answers.{StartsBuild, Unless}
use Rattle.replay.specs.declared.answer.Answer.TheVariants.{Refused}

-- where no build runs and the counts are in their limits, the specifications alone are a cause
pub specs_left : (building fits : Bool) (specs : Option Fault) → building ≡ false → fits ≡ true
    → first_cause (cause_if building BuildRunning) (first_cause (cause_if (not fits) BadCount) specs) ≡ specs
specs_left false true specs no_build in_limits = refl
specs_left false false specs no_build in_limits = cc
specs_left true fits specs no_build in_limits = cc

-- no plan is made for that cause, or for want of memory where there is none
pub no_plan : (cause : Option Fault) (chosen : SpoolChoice) (start : Start) (core : CoreState) (fault : Fault) → RefusedFor cause fault
    → Unless cause (StartsBuild chosen start) core (Refused fault) core
no_plan None chosen start core fault (inl is) = absurd (let none : None ≡ Some fault = is in cc)
no_plan None chosen start core fault (inr (none, memory)) = inr (ap Refused memory, refl)
no_plan (Some other) chosen start core fault (inl is) = (let same : Some other ≡ Some fault = is in cc, refl)
no_plan (Some other) chosen start core fault (inr (none, memory)) = absurd (let some : Some other ≡ None = none in cc)
