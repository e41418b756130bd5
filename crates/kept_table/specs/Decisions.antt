-- What a switch decided, as it is kept and told afterwards.
use Rattle.std.specs.Prelude.{◌≡◌, ◌⊎◌, ℕ, true, List, [], Option, Some, None, is_some}
use Rattle.keybytes.specs.Keys.{KeySpecValue, HasKey}
use Rattle.keybytes.specs.declared.cell.Cell.{Cell}
use Rattle.keybytes.specs.declared.fault.Fault.{Fault}
use Rattle.keybytes.specs.declared.fault.Fault.TheVariants.{Memory}
use Rattle.heap_log.specs.declared.outcome.Outcome.{Outcome}
use Rattle.heap_log.specs.declared.outcome.Outcome.TheVariants.{Ready, Shared}
use Rattle.build_events.specs.BuildSteps.{OnBuild}
use Rattle.build_events.specs.CoreState.{CoreState}
use Rattle.build_events.specs.Steps.{Step}
use Rattle.build_events.specs.declared.event.Event.TheVariants.{Switch}
use Rattle.build_events.specs.declared.reply.Reply.TheVariants.{Refused, Switched}
use Rattle.leased_core.specs.Leasing.{EndsBuild}
use Rattle.kept_table.specs.KeptTables.{DecidedValue}

-- a switch decided, by the record of that number, and that is what it decided of the indexes of its build
abbrev pub Decides : CoreState → ℕ → DecidedValue → CoreState → Type 0
Decides old number decided new =
    EndsBuild Switch (Switched number decided.verdicts) old new × OnBuild old.live.build (λ b. decided.specs ≡ b.specs)

-- a switch did not decide: there was no memory to keep what the build that runs decides, and nothing changed; or it was refused
abbrev pub FailsToDecide : CoreState → Fault → CoreState → Type 0
FailsToDecide old fault new = ((fault ≡ Memory) × (is_some old.live.build ≡ true) × (new ≡ old)) ⊎ Step old Switch (Refused fault) new

-- what makes the keys of the indexes that were decided on
abbrev pub specs_in : Option DecidedValue → List KeySpecValue
specs_in None = []
specs_in (Some decided) = decided.specs

-- what became of each of them
abbrev pub verdicts_in : Option DecidedValue → List Outcome
verdicts_in None = []
verdicts_in (Some decided) = decided.verdicts

-- an index was not refused for a key that rows share, or there is no such index
abbrev pub IsNotShared : Option Outcome → Type 0
IsNotShared None = Unit {0}
IsNotShared (Some (Ready number)) = Unit {0}
IsNotShared (Some (Shared key first second)) = ⊥

-- these are the cells of the key that rows share, for which an index of that specification was refused
abbrev pub AreSharedCells : Option KeySpecValue → Option Outcome → List Cell → Type 0
AreSharedCells None verdict cells = ⊥
AreSharedCells (Some spec) None cells = ⊥
AreSharedCells (Some spec) (Some (Ready number)) cells = ⊥
AreSharedCells (Some spec) (Some (Shared key first second)) cells = HasKey spec key cells
