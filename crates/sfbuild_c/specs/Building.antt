-- What the calls of a build do that are no single event of the core.
use Rattle.std.specs.Prelude.{◌≡◌, ◌⊎◌, ℕ, Bool, true, false, List, None, is_some, length, IsSomeAnd}
use Rattle.keybytes.specs.declared.fault.Fault.{Fault}
use Rattle.keybytes.specs.declared.fault.Fault.TheVariants.{BuildRunning}
use Rattle.keybytes.specs.declared.kind.Kind.{Kind}
use Rattle.scan_range.specs.declared.dealing.Dealing.TheVariants.{Even}
use Rattle.build_events.specs.declared.event.Event.TheVariants.{Abandon}
use Rattle.build_events.specs.declared.plan.Plan.{Plan}
use Rattle.build_events.specs.Steps.{Step}
use Rattle.build_events.specs.declared.reply.Reply.TheVariants.{Abandoned, Refused, Started}
use Rattle.run_spool.specs.declared.choice.SpoolChoice.TheVariants.{Prefix}
use Rattle.leased_core.specs.Leasing.{EndsBuild, StartsOver}
use Rattle.kept_table.specs.Decisions.{Decides, FailsToDecide, verdicts_in}
use Rattle.kept_table.specs.KeptTables.{KeptValue}
use Rattle.kept_table.specs.Pieces.{DoesPiece, FailsToAdvance, NotesWaits, WorksToTheEnd}
use Rattle.kept_table.specs.Starts.{RefusesStart, start_limits_refusal}
use Rattle.sfbuild_c.specs.IndexBytes.{RefusesIndexes, SpellsIndexes}

-- a build of the indexes that the bytes spell, with so many workers and ranges
pub record IsAskedFor (kinds : List Kind) (bytes : List ℕ) (workers ranges : ℕ) (plan : Plan) : Type 0 where
  pub specs : SpellsIndexes kinds bytes plan.specs.items
  pub workers_are : plan.workers ≡ workers
  pub dealing : plan.dealing ≡ Even ranges

-- the build that is asked for starts, with prefix spools, and reads so many pages
abbrev pub StartsBuild : List ℕ → ℕ → ℕ → ℕ → ℕ → KeptValue → KeptValue → Type 0
StartsBuild bytes workers ranges quota pages before after =
    (after.decided ≡ before.decided) × (after.waited ≡ None)
    × ((plan : Plan) × IsAskedFor before.core.live.heap.schema bytes workers ranges plan
    × (start_limits_refusal quota plan before.core ≡ None) × StartsOver Prefix quota plan before.core (Started pages) after.core)

-- it doesn't: a build runs; or the bytes aren't those of indexes, or there is no memory for these; or the start is refused
abbrev pub RefusesBuild : List ℕ → ℕ → ℕ → ℕ → Fault → KeptValue → KeptValue → Type 0
RefusesBuild bytes workers ranges quota fault before after =
    (after ≡ before)
    × (((fault ≡ BuildRunning) × (is_some before.core.live.build ≡ true))
    ⊎ ((before.core.live.build ≡ None)
    × (RefusesIndexes before.core.live.heap.schema bytes fault
    ⊎ ((plan : Plan) × IsAskedFor before.core.live.heap.schema bytes workers ranges plan × RefusesStart Prefix quota plan before.core fault))))

-- a piece of a build, which applies so many entries of each index more than were written since the piece before: the last, which is the switch, or one
-- before it
abbrev pub Advances : ℕ → Bool → KeptValue → KeptValue → Type 0
Advances most true before after =
    IsSomeAnd after.decided (λ decided. WorksToTheEnd most before.waited before.core decided after.core) × (after.waited ≡ None)
Advances most false before after =
    DoesPiece most before.waited before.core after.core × (after.decided ≡ before.decided) × NotesWaits before.core before.waited after.core after.waited

-- such a piece ends with a fault
abbrev pub FailsToGoOn : ℕ → Fault → KeptValue → KeptValue → Type 0
FailsToGoOn most fault before after =
    FailsToAdvance most before.waited before.core fault after.core after.waited × (after.decided ≡ before.decided)

-- a switch decides, of so many indexes
abbrev pub SwitchesTo : ℕ → KeptValue → KeptValue → Type 0
SwitchesTo indexes before after =
    IsSomeAnd after.decided (λ decided. (number : ℕ) × Decides before.core number decided after.core) × (indexes ≡ length (verdicts_in after.decided))
    × (after.waited ≡ None)

-- a switch does not decide
abbrev pub FailsToSwitch : Fault → KeptValue → KeptValue → Type 0
FailsToSwitch fault before after =
    FailsToDecide before.core fault after.core × (after.decided ≡ before.decided) × (after.waited ≡ before.waited)

-- the build is given up
abbrev pub IsGivenUp : KeptValue → KeptValue → Type 0
IsGivenUp before after = EndsBuild Abandon Abandoned before.core after.core × (after.decided ≡ before.decided) × (after.waited ≡ None)

-- it isn't
abbrev pub IsNotGivenUp : Fault → KeptValue → KeptValue → Type 0
IsNotGivenUp fault before after =
    Step before.core Abandon (Refused fault) after.core × (after.decided ≡ before.decided) × (after.waited ≡ before.waited)
