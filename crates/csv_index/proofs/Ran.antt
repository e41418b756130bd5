-- How a run ends that built its indexes.
use Rattle.std.proofs.Common.{◌≡◌, ℕ, List, Bool, Ok, Err, Option, None, Some, Result, map, subst}
use Rattle.std.specs.Prelude.{IfOk, IfSome, IsOkAnd}
use Rattle.keybytes.specs.Keys.{KeySpecValue}
use Rattle.keybytes.specs.declared.fault.Fault.{Fault}
use Rattle.csv_index.specs.Fillings.{IsFilledFrom}
use Rattle.csv_index.specs.Runs.{EndsBuilt, RunsOn}
use Rattle.csv_index.specs.declared.running.Work.{Work}
use Rattle.csv_index.specs.declared.table.asked.Asked.{Asked}
use Rattle.csv_index.specs.declared.table.failure.Failure.{Failure}
use Rattle.csv_index.specs.declared.table.filling.Filled.{Filled}

-- where the text is known, it is that of which the table was filled
pub runs_on :
    (unique : List Bool) (known : Option (List ℕ)) (asked : Asked) (filled : Filled) (work : Result Work Fault) (ran : Result Bool Failure)
    → asked.schema ≡ map (λ column. column.kind) asked.columns.items → map (λ spec. spec.unique) asked.specs.items ≡ unique
    → IfSome known (λ text. IsFilledFrom asked.schema asked.columns.items text filled) → IfOk work (λ it. it.plan.specs.items ≡ asked.specs.items)
    → IfOk ran (λ all_ready. IsOkAnd work (λ it. EndsBuilt filled.heap.state.log it.plan.specs.items all_ready))
    → IfSome known (λ text. IfOk ran (RunsOn unique text))
runs_on unique None asked filled work ran schema are taken planned ends = tt
runs_on unique (Some text) asked filled work (Err failure) schema are taken planned ends = tt
runs_on unique (Some text) asked filled (Err fault) (Ok all_ready) schema are taken planned ends = absurd ends
runs_on unique (Some text) asked filled (Ok it) (Ok all_ready) schema are taken planned ends = record {
  asked = asked;
  schema = schema;
  unique_are = are;
  filled = filled;
  taken = taken;
  built = subst (λ (specs : List KeySpecValue). EndsBuilt filled.heap.state.log specs all_ready) planned ends;
}
