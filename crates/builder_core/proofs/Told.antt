-- A call of the table within the core, told as an event.
use Rattle.std.proofs.Common.{◌≡◌, None, Result, Ok, Err, inl, inr, refl, sym, subst}
use Rattle.std.specs.Prelude.{MatchResult}
use Rattle.keybytes.specs.declared.fault.Fault.{Fault}
use Rattle.heap_table.specs.HeapState.{HeapState}
use Rattle.live_lemmas.specs.Builds.{LiveValue, core_state}
use Rattle.building.specs.BuildingValue.{BuildingValue}
use Rattle.build_events.specs.CoreState.{CoreState}
use Rattle.build_events.specs.Steps.{OnRows, OnLive, Tells, Answers, Does, Step, refusal}
use Rattle.build_events.specs.declared.event.Event.{Event}
use Rattle.build_events.specs.declared.reply.Reply.{Reply}
use Rattle.build_events.specs.declared.reply.Reply.TheVariants.{Refused}

pub tells_on_live :
    {R : Type 0} (tell : R → Reply) (Does : HeapState → R → HeapState → Type 0) (s : CoreState) (live new : LiveValue) (building : BuildingValue) (answer : R)
    → core_state live building ≡ s → OnRows Does live.state answer new.state → Tells tell (OnLive (OnRows Does)) s (tell answer) (core_state new building)
tells_on_live tell Does s live new building answer is does =
    subst (λ (t : CoreState). Tells tell (OnLive (OnRows Does)) t (tell answer) (core_state new building)) is (answer, refl, (does, refl))

-- what is answered is a step
pub stepped :
    (s : CoreState) (event : Event) (answer : Result Reply Fault) (reply : Reply) (new : CoreState) → Answers s event answer new
    → MatchResult answer (λ r. reply ≡ r) (λ fault. reply ≡ Refused fault) → Step s event reply new
stepped s event (Ok told) reply new does is = inr (subst (λ r. (refusal s event ≡ None) × Does s event r new) (sym is) does)
stepped s event (Err fault) reply new refused is = inl (fault, is, refused)
