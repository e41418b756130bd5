-- A call answers what the step of the core says.
use Rattle.std.proofs.Common.{◌≡◌, ℕ, Bool, true, false, Option, None, Some, IsSomeAnd, refl, sym, ap, ◌∙◌, inl, inr}
use Rattle.keybytes.specs.Faults.{number_of}
use Rattle.keybytes.specs.declared.fault.Fault.{Fault}
use Rattle.build_events.specs.declared.event.Event.{Event}
use Rattle.build_events.specs.declared.reply.Reply.{Reply}
use Rattle.build_events.specs.declared.reply.Reply.TheVariants.{Refused}
use Rattle.build_events.specs.CoreState.{CoreState}
use Rattle.kept_table.specs.Decisions.{Decides}
use Rattle.kept_table.specs.KeptTables.{DecidedValue, KeptValue}
use Rattle.kept_table.specs.Pieces.{DoesPiece, NotesWaits, WorksToTheEnd}
use Rattle.sfbuild_c.specs.Building.{Advances}
use Rattle.sfbuild_c.specs.Answers.{Answered, KeepsCause, OnTable, Steps}
use Rattle.sfbuild_c.specs.Causes.{cause_of}
use Rattle.sfbuild_c.specs.declared.session.Session.{Session}

pub answered_done :
    (event : Event) (reply : Reply) (old new : Session) → OnTable (Steps event reply) old new → KeepsCause old new → Answered event reply 0 old new
answered_done event reply old new on keeps = inl ((on.0, on.1, on.2, on.3, (refl, on.4)), keeps)

pub answered_refused :
    (event : Event) (reply : Reply) (fault : Fault) (status : ℕ) (old mid new : Session) → OnTable (Steps event (Refused fault)) old mid
    → status ≡ number_of fault → new ≡ record mid { cause = cause_of fault } → Answered event reply status old new
answered_refused event reply fault status old mid new on is told =
    inr (inr (fault, (is, ap (λ (s : Session). s.cause) told), (on.0, on.1, on.2, ap (λ (s : Session). s.held.table) told ∙ on.3, on.4)))

-- the table is the same before, so what becomes of it is told from there
pub from_same :
    (Does : KeptValue → KeptValue → Type 0) (old mid new : Session) → mid.held.table ≡ old.held.table → OnTable Does mid new → OnTable Does old new
from_same Does old mid new same on = (on.0, on.1, sym same ∙ on.2, on.3, on.4)

-- a switch decides by some record
pub some_decides :
    (told : Option DecidedValue) (number : ℕ) (old new : CoreState) → IsSomeAnd told (λ decided. Decides old number decided new)
    → IsSomeAnd told (λ decided. (record_number : ℕ) × Decides old record_number decided new)
some_decides None number old new decides = absurd decides
some_decides (Some decided) number old new decides = (number, decides)

-- a piece of a build is the last, or one before it
pub advances :
    (most : ℕ) (switched : Bool) (before after : KeptValue)
    → (switched ≡ true → IsSomeAnd after.decided (λ decided. WorksToTheEnd most before.waited before.core decided after.core))
    → (switched ≡ true → after.waited ≡ None)
    → (switched ≡ false → DoesPiece most before.waited before.core after.core × (after.decided ≡ before.decided))
    → (switched ≡ false → NotesWaits before.core before.waited after.core after.waited) → Advances most switched before after
advances most true before after ends forgotten goes_on waits = (ends refl, forgotten refl)
advances most false before after ends forgotten goes_on waits = ((goes_on refl).0, (goes_on refl).1, waits refl)
