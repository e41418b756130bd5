-- What a run on a file comes to.
use Rattle.std.specs.Prelude.{◌≡◌, ◌⊎◌, ℕ, Bool, List, Option, if◌then◌else◌, map}
use Rattle.std.specs.List.{list_all}
use Rattle.crew.specs.MadeReady.{is_ready}
use Rattle.crew.specs.Reports.{IsReport}
use Rattle.heap_log.specs.declared.outcome.Outcome.{Outcome}
use Rattle.heap_log.specs.declared.record.LogRec.{LogRec}
use Rattle.keybytes.specs.Keys.{KeySpecValue}
use Rattle.keybytes.specs.declared.pair.Pair.{Pair}
use Rattle.csv_index.specs.Fillings.{IsFilledFrom}
use Rattle.csv_index.specs.declared.table.asked.Asked.{Asked}
use Rattle.csv_index.specs.declared.table.filling.Filled.{Filled}

-- the indexes were built over a table that was opened with that log, and these are the verdicts on its rows
pub record IsBuilt (opening : List LogRec) (specs : List KeySpecValue) (verdicts : List Outcome) : Type 0 where
  pub log : List LogRec
  pub pairs : Option (List (List Pair))
  pub report : IsReport opening specs log verdicts pairs

-- so they were, and this says whether all are ready
abbrev pub EndsBuilt : List LogRec → List KeySpecValue → Bool → Type 0
EndsBuilt opening specs all_ready = (verdicts : List Outcome) × IsBuilt opening specs verdicts × (all_ready ≡ list_all is_ready verdicts)

-- a table was filled from the text, and the indexes that are asked for, unique or not, were built over it
pub record RunsOn (unique : List Bool) (text : List ℕ) (all_ready : Bool) : Type 0 where
  pub asked : Asked
  pub schema : asked.schema ≡ map (λ column. column.kind) asked.columns.items
  pub unique_are : map (λ spec. spec.unique) asked.specs.items ≡ unique
  pub filled : Filled
  pub taken : IsFilledFrom asked.schema asked.columns.items text filled
  pub built : EndsBuilt filled.heap.state.log asked.specs.items all_ready

-- the exit status of a run on the text: 2, or 0 where each index is ready and 1 where one is refused
abbrev pub ExitsWith : List Bool → List ℕ → ℕ → Type 0
ExitsWith unique text number = (number ≡ 2) ⊎ ((all_ready : Bool) × RunsOn unique text all_ready × (number ≡ (if all_ready then 0 else 1)))
