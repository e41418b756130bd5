-- What a begin is refused for, and what it leaves then.
use Rattle.std.proofs.Common.{◌≡◌, ◌≢◌, ◌⊎◌, Bool, true, false, List, ℕ, length, Option, Some, None, inl, inr, refl, ap, sym, ◌∙◌}
use Rattle.std.specs.Prelude.{if◌then◌else◌, nat_le, ◌||◌, ◌==◌}
use Rattle.keybytes.specs.declared.fault.Fault.{Fault}
use Rattle.keybytes.specs.declared.fault.Fault.TheVariants.{Fenced, Memory, NoPage, TooManyTxns}
use Rattle.heap_table.specs.HeapState.{HeapState, begin_refusal}
use Rattle.heap_table.specs.Limits.{open_most}
use Rattle.build_events.specs.CoreState.{CoreState}
use Rattle.build_events.specs.Steps.{Step}
use Rattle.build_events.specs.declared.event.Event.TheVariants as event
use Rattle.build_events.specs.declared.reply.Reply.{Reply}
use Rattle.build_events.specs.declared.reply.Reply.TheVariants as reply
use Rattle.script.specs.declared.command.Command.TheVariants.{Begin}
use Rattle.leased_core.specs.Leasing.{WantedLeasedPage}
use Rattle.replay.specs.Labels.{NamesSame, Renames}
use Rattle.replay.specs.Sessions.{Runs, ScriptState}
use Rattle.replay.specs.declared.answer.Answer.TheVariants as answer

-- what refuses a begin
abbrev IsOfBegin : Fault → Type 0
IsOfBegin fault = (fault ≡ Fenced) ⊎ (fault ≡ TooManyTxns)

of_tests : (fenced many : Bool) (fault : Fault) → (if fenced then Some Fenced else (if many then Some TooManyTxns else None)) ≡ Some fault → IsOfBegin fault
of_tests true many fault is = inl (let same : Some Fenced ≡ Some fault = is in cc)
of_tests false true fault is = inr (let same : Some TooManyTxns ≡ Some fault = is in cc)
of_tests false false fault is = absurd (let none : None ≡ Some fault = is in cc)

of_begin : (heap : HeapState) (fault : Fault) → begin_refusal heap ≡ Some fault → IsOfBegin fault
of_begin heap fault is = of_tests heap.fenced (nat_le open_most (length heap.active) || (heap.begun == 18446744073709551615)) fault is

-- it is no want of memory, nor of a page
no_memory : (fault : Fault) → IsOfBegin fault → fault ≡ Memory → ⊥
no_memory fault (inl fenced) memory = cc
no_memory fault (inr many) memory = cc

no_page : (fault : Fault) → IsOfBegin fault → fault ≡ NoPage → ⊥
no_page fault (inl fenced) page = cc
no_page fault (inr many) page = cc

-- a begin tells of no missing page
pub no_page_told : (s : CoreState) (told : Reply) (new : CoreState) → Step s event.Begin told new
    → told ≡ reply.Refused NoPage → s.work.spoiled ≡ None → WantedLeasedPage s event.Begin
no_page_told s told new (inl (fault, is, inl (cause, same))) page fine =
    absurd (no_page fault (of_begin s.live.heap fault cause) (let both : reply.Refused fault ≡ reply.Refused NoPage = sym is ∙ page in cc))
no_page_told s told new (inl (fault, is, inr (none, memory, same))) page fine =
    absurd (let both : reply.Refused fault ≡ reply.Refused NoPage = sym is ∙ page in cc)
no_page_told s told new (inr done) page fine = absurd (let begun = done.1.1 in cc)

-- where nothing refuses a begin, it wants memory and changes nothing
pub only_memory : (s : CoreState) (fault : Fault) (new : CoreState) → begin_refusal s.live.heap ≡ None → Step s event.Begin (reply.Refused fault) new
    → (fault ≡ Memory) × (new ≡ s)
only_memory s fault new free (inl (other, is, inl (cause, same))) = absurd (let both : None ≡ Some other = sym free ∙ cause in cc)
only_memory s fault new free (inl (other, is, inr (none, memory, same))) = (let both : reply.Refused fault ≡ reply.Refused other = is in cc, same)
only_memory s fault new free (inr done) = absurd (let begun = done.1.1 in cc)

-- a begin that a cause refuses leaves the label with no name
pub refused_begin : (old new : ScriptState) (label : List ℕ) (fault : Fault) → begin_refusal old.core.live.heap ≡ Some fault
    → new.core ≡ old.core → Renames old.labels label None new.labels → new.choice ≡ old.choice → new.status ≡ old.status
    → Runs old (Begin label) (answer.Refused fault) new
refused_begin old new label fault cause core labels choice status =
    let step : Step old.core event.Begin (reply.Refused fault) new.core = inl (fault, refl, inl (cause, core)) in
    record {
      core = (reply.Refused fault, step, no_page_told old.core (reply.Refused fault) new.core step, refl);
      labels = inr (
        (λ is. no_memory fault (of_begin old.core.live.heap fault cause) (let both : answer.Refused fault ≡ answer.Refused Memory = is in cc)),
        inr (fault, refl, labels),
      );
      choice = choice;
      status = status;
    }

-- one that wants memory changes nothing
pub wanting_begin : (old new : ScriptState) (label : List ℕ) (fault : Fault) → begin_refusal old.core.live.heap ≡ None → fault ≡ Memory
    → new.core ≡ old.core → NamesSame old.labels new.labels → new.choice ≡ old.choice → new.status ≡ old.status
    → Runs old (Begin label) (answer.Refused fault) new
wanting_begin old new label fault free memory core labels choice status =
    let step : Step old.core event.Begin (reply.Refused fault) new.core = inl (fault, refl, inr (free, memory, core)) in
    record {
      core = (reply.Refused fault, step, no_page_told old.core (reply.Refused fault) new.core step, refl);
      labels = inl (ap answer.Refused memory, labels);
      choice = choice;
      status = status;
    }
