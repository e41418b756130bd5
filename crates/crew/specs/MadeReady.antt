-- How many indexes the records of a log made ready.
use Rattle.std.specs.Prelude.{◌≡◌, ℕ, ◌<◌, nat_lt, if◌then◌else◌, Bool, true, false, List, ◌++◌, Option, None, Some, count_by, sum_by}
use Rattle.keybytes.specs.Faults.{RefusedFor}
use Rattle.keybytes.specs.declared.fault.Fault.{Fault}
use Rattle.keybytes.specs.declared.fault.Fault.TheVariants.{BadCount}
use Rattle.heap_log.specs.declared.outcome.Outcome.{Outcome}
use Rattle.heap_log.specs.declared.outcome.Outcome.TheVariants.{Ready, Shared}
use Rattle.heap_log.specs.declared.record.LogRec.{LogRec}
use Rattle.heap_log.specs.declared.record.LogRec.TheVariants.{Write, Undo, Commit, Switch}

-- whether an index is ready by that outcome
abbrev pub is_ready : Outcome → Bool
is_ready (Ready number) = true
is_ready (Shared key first second) = false

-- how many indexes a record made ready: a switch those that are ready by its verdicts, and any other record none
abbrev pub ready_by : LogRec → ℕ
ready_by (Write txn rid row) = 0
ready_by (Undo txn undone) = 0
ready_by (Commit txn) = 0
ready_by (Switch verdicts) = count_by is_ready verdicts

-- how many these records made ready together
abbrev pub made_ready : List LogRec → ℕ
made_ready records = sum_by ready_by records

-- the log goes on from `opening`, and what was written since made so many indexes ready
pub record HasMadeReady (opening log : List LogRec) (ready : ℕ) : Type 0 where
  pub since : List LogRec
  pub goes_on : log ≡ opening ++ since
  pub counted : ready ≡ made_ready since

-- of so many ready indexes none has that number, from 0
abbrev pub no_index : ℕ → ℕ → Option Fault
no_index ready number = if nat_lt number ready then None else Some BadCount

-- the log made an index ready that has that number
abbrev pub HasIndex : List LogRec → List LogRec → ℕ → Type 0
HasIndex opening log number = (ready : ℕ) × HasMadeReady opening log ready × (number < ready)

-- the log made no index ready that has that number, or there was no memory for a copy of it
abbrev pub LacksIndex : List LogRec → List LogRec → ℕ → Fault → Type 0
LacksIndex opening log number fault = (ready : ℕ) × HasMadeReady opening log ready × RefusedFor (no_index ready number) fault
