-- What the calls answer: their status, and what becomes of the table behind a session.
use Rattle.std.specs.Prelude.{◌≡◌, ◌⊎◌, ℕ, List, Some, None, IsSomeAnd}
use Rattle.keybytes.specs.Faults.{number_of}
use Rattle.keybytes.specs.Rows.{RefusesReading, Spells}
use Rattle.keybytes.specs.declared.cell.Cell.{Cell}
use Rattle.keybytes.specs.declared.fault.Fault.{Fault}
use Rattle.build_events.specs.Steps.{HasPageCause, Step}
use Rattle.build_events.specs.declared.event.Event.{Event}
use Rattle.build_events.specs.declared.reply.Reply.{Reply}
use Rattle.build_events.specs.declared.reply.Reply.TheVariants.{Refused}
use Rattle.leased_core.specs.Leasing.{WantedLeasedPage}
use Rattle.kept_table.specs.KeptTables.{KeptValue}
use Rattle.sfbuild_c.specs.Causes.{cause_of}
use Rattle.sfbuild_c.specs.declared.session.Session.{Session}

-- what the newest refusal said stays
abbrev pub KeepsCause : Session → Session → Type 0
KeepsCause old new = new.cause ≡ old.cause

-- no table is open, before or after, and what the newest refusal said stays
abbrev pub IsClosed : Session → Session → Type 0
IsClosed old new = (old.held.table ≡ None) × (new.held.table ≡ None) × KeepsCause old new

-- a table is open before and after, and this holds of both
abbrev pub OnTable : (KeptValue → KeptValue → Type 0) → Session → Session → Type 0
OnTable Does old new =
    (before : KeptValue) × (after : KeptValue) × (old.held.table ≡ Some before) × (new.held.table ≡ Some after) × Does before after

-- the status tells the fault, and the session what it says beside its number
abbrev pub TellsFault : ℕ → Fault → Session → Type 0
TellsFault status fault new = (status ≡ number_of fault) × (new.cause ≡ cause_of fault)

-- a call is not done: no table is open, or a fault refuses it so
abbrev pub IsNotDone : (Fault → KeptValue → KeptValue → Type 0) → ℕ → Session → Session → Type 0
IsNotDone Refuses status old new =
    ((status ≡ 1) × IsClosed old new) ⊎ ((fault : Fault) × TellsFault status fault new × OnTable (Refuses fault) old new)

-- a call does this to the table, and what the newest refusal said stays; or it is not done
abbrev pub Tells : (KeptValue → KeptValue → Type 0) → (Fault → KeptValue → KeptValue → Type 0) → ℕ → Session → Session → Type 0
Tells Does Refuses status old new = (OnTable Does old new × KeepsCause old new) ⊎ IsNotDone Refuses status old new

-- what a status tells: 0 that the call did this, 1 that no table is open, else the fault that refuses it so
abbrev pub Answers : (KeptValue → KeptValue → Type 0) → (Fault → KeptValue → KeptValue → Type 0) → ℕ → Session → Session → Type 0
Answers Does Refuses status = Tells (λ before after. (status ≡ 0) × Does before after) Refuses status

-- this holds where the call is not done
abbrev pub UnlessDone : ℕ → Type 0 → Type 0
UnlessDone status Holds = (status ≡ 0) ⊎ Holds

-- this holds where the call is not done, and no buffer was too small for what it has to tell
abbrev pub UnlessTold : ℕ → Type 0 → Type 0
UnlessTold status Holds = UnlessDone status ((status ≡ 4) ⊎ Holds)

-- an event of the core is replied so, for want of a page only where a spool of its worker was full, unless the build was spoiled before; and what the
-- newest switch decided stays, and what is kept of how many entries waited
abbrev pub Steps : Event → Reply → KeptValue → KeptValue → Type 0
Steps event reply before after =
    Step before.core event reply after.core × (after.decided ≡ before.decided) × (after.waited ≡ before.waited)
    × HasPageCause WantedLeasedPage before.core event reply

-- what the status of a call for an event tells
abbrev pub Answered : Event → Reply → ℕ → Session → Session → Type 0
Answered event reply = Answers (Steps event reply) (λ fault. Steps event (Refused fault))

-- the bytes are refused as a row of the table, and nothing changes
abbrev pub RefusesRowBytes : List ℕ → Fault → KeptValue → KeptValue → Type 0
RefusesRowBytes bytes fault before after = RefusesReading before.core.live.heap.schema bytes fault × (after ≡ before)

-- the bytes spell these cells of a row of the table
abbrev pub SpellsRow : List ℕ → List Cell → Session → Type 0
SpellsRow bytes cells session = IsSomeAnd session.held.table (λ table. Spells table.core.live.heap.schema bytes cells)

-- the bytes are read as a row of the table first; then this holds of its cells
abbrev pub WithRow : List ℕ → (List Cell → ℕ → Session → Session → Type 0) → ℕ → Session → Session → Type 0
WithRow bytes Goes status old new =
    IsNotDone (RefusesRowBytes bytes) status old new ⊎ ((cells : List Cell) × SpellsRow bytes cells old × Goes cells status old new)
