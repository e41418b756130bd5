-- What a switch says of each index of its build.
use Rattle.std.specs.Prelude.{ℕ, ◌+◌, if◌then◌else◌, List, [], ◌∷◌, filter}
use Rattle.std.specs.List.{AllZip}
use Rattle.keybytes.specs.Keys.{KeySpecValue, IsKeyOf}
use Rattle.heap_log.specs.declared.outcome.Outcome.{Outcome}
use Rattle.heap_log.specs.declared.outcome.Outcome.TheVariants.{Ready, Shared as Refused}
use Rattle.heap_log.specs.declared.record.LogRec.{LogRec}
use Rattle.heap_table.specs.TablePairs.{pairs_at_rest}
use Rattle.unique_verdict.specs.Shared.{shared_pairs}
use Rattle.unique_verdict.specs.Verdicts.{first_shared, accepts}
use Rattle.unique_verdict.specs.declared.verdict.Verdict.{Verdict}
use Rattle.unique_verdict.specs.declared.verdict.Verdict.TheVariants.{Unique, Shared}

-- the verdict on an index of that specification over the rows that stand: one that is unique is refused where two of them share a key
abbrev pub verdict_on : List LogRec → KeySpecValue → Verdict
verdict_on log spec = if spec.unique then first_shared (shared_pairs (pairs_at_rest spec log)) else Unique

-- those that are not refused
abbrev pub accepted : List LogRec → List KeySpecValue → List KeySpecValue
accepted log specs = filter (λ spec. accepts (verdict_on log spec)) specs

-- what becomes of an index by a verdict: ready under that number, or refused for the key that two RIDs have
abbrev pub outcome : ℕ → Verdict → Outcome
outcome number Unique = Ready number
outcome number (Shared key first second) = Refused key first second

-- the number of the next ready index
abbrev pub next_number : ℕ → Verdict → ℕ
next_number number verdict = if accepts verdict then number + 1 else number

-- what becomes of indexes by these verdicts, where the first that is ready has that number
abbrev pub outcomes : ℕ → List Verdict → List Outcome
outcomes number [] = []
outcomes number (verdict ∷ verdicts) = outcome number verdict ∷ outcomes (next_number number verdict) verdicts

-- the key that an index was refused for is one of its specification
abbrev pub HasKeyOf : KeySpecValue → Outcome → Type 0
HasKeyOf spec (Ready number) = Unit {0}
HasKeyOf spec (Refused key first second) = IsKeyOf spec key

-- so it is of each of the refused ones
abbrev pub HaveSharedKeys : List KeySpecValue → List Outcome → Type 0
HaveSharedKeys specs verdicts = AllZip HasKeyOf specs verdicts
