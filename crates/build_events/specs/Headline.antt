-- The headline: each index as it is switched in has the pairs of the rows then live, as a build at rest gives them.
use Rattle.std.specs.Prelude.{◌≡◌, ℕ, suc, true, List, length, take, drop, Some}
use Rattle.std.specs.List.{slice_get}
use Rattle.keybytes.specs.Keys.{KeySpecValue, IsKeyOf}
use Rattle.heap_log.specs.Growing.{first_records}
use Rattle.heap_log.specs.declared.outcome.Outcome.{Outcome}
use Rattle.heap_log.specs.declared.outcome.Outcome.TheVariants.{Ready, Shared}
use Rattle.heap_log.specs.declared.record.LogRec.{LogRec}
use Rattle.heap_table.specs.TablePairs.{pairs_at_rest}
use Rattle.unique_verdict.specs.Verdicts.{IsUnique, IsLeast}
use Rattle.build_events.specs.declared.event.Event.{Event}
use Rattle.build_events.specs.declared.reply.Reply.{Reply}
use Rattle.build_events.specs.declared.reply.Reply.TheVariants.{Switched}
use Rattle.build_events.specs.CoreState.{CoreState, LiveState, BuildState, SpoolsState, opening, abandoned}
use Rattle.ready_indexes.specs.Indexes.{ReadyValue, IsIndex}
use Rattle.build_events.specs.Steps.{Step, Run}
use Rattle.build_events.specs.declared.event.Event.TheVariants.{Switch}

-- the index that a switch made ready under that number is of that specification, and has the pairs at rest of the rows of that log: their keys
-- are those of rows, and they stand in the order of the key's columns
pub record HasPairsAtRest (log : List LogRec) (ready : List ReadyValue) (spec : KeySpecValue) (number : ℕ) : Type 0 where
  pub index : ReadyValue
  pub there : slice_get ready number ≡ Some index
  pub of_spec : index.spec ≡ spec
  pub at_rest : index.pairs ≡ pairs_at_rest spec log
  pub keyed : IsIndex spec index.pairs

-- what became of an index by a switch that found that log: it is ready with its pairs at rest, no two RIDs of which have one key if it is unique; or it is
-- unique and refused for the least key that two RIDs have, which is the key of a row, with its two least RIDs
abbrev pub IsDecided : List LogRec → List ReadyValue → KeySpecValue → Outcome → Type 0
IsDecided log ready spec (Ready number) = HasPairsAtRest log ready spec number × (spec.unique ≡ true → IsUnique (pairs_at_rest spec log))
IsDecided log ready spec (Shared key first second) =
    (spec.unique ≡ true) × IsLeast (pairs_at_rest spec log) (record { key = key; rid = first }) (record { key = key; rid = second }) × IsKeyOf spec key

-- the switch that was answered in that place of the list of events, with the number of its log record and its verdicts, on a
-- run that ends in that state
pub record SwitchesIn
    (MissedPage : CoreState → Event → Type 0) (start end : CoreState) (events : List Event) (replies : List Reply) (place number : ℕ)
    (verdicts : List Outcome) : Type 0 where
  -- the states that the switch found and left, on the way
  pub found : CoreState
  pub left : CoreState
  pub before : Run MissedPage start (take place events) (take place replies) found
  -- the step from the one to the other is that switch
  pub decided : Step found Switch (Switched number verdicts) left
  pub after : Run MissedPage left (drop (suc place) events) (drop (suc place) replies) end
  -- its log is the beginning of the final one that ends with the switch
  pub beginning : left.live.heap.log ≡ first_records number end.live.heap.log
  -- the build that ran, with a verdict on each of its indexes
  pub build : BuildState
  pub running : found.live.build ≡ Some build
  pub each : length verdicts ≡ length build.specs
  -- which is right for the rows that this beginning leaves
  pub right : (i : ℕ) (spec : KeySpecValue) (verdict : Outcome) → slice_get build.specs i ≡ Some spec → slice_get verdicts i ≡ Some verdict
      → IsDecided (first_records number end.live.heap.log) left.live.ready spec verdict

-- so does every switch of the run that decided
abbrev pub EachSwitchIsAtRest : (CoreState → Event → Type 0) → CoreState → CoreState → List Event → List Reply → Type 0
EachSwitchIsAtRest MissedPage start end events replies =
    (place number : ℕ) (verdicts : List Outcome) → slice_get replies place ≡ Some (Switched number verdicts)
    → SwitchesIn MissedPage start end events replies place number verdicts

-- what a list of events comes to on a table, beside these spools: a run of the step relation, in which each index as it is switched in has the pairs
-- that a build at rest gives of the rows then live, and a page is missing only where that cause says so
pub record RunsAsAtRest
    (MissedPage : CoreState → Event → Type 0) (live : LiveState) (spools : SpoolsState) (events : List Event) (replies : List Reply)
    (left : LiveState) : Type 0 where
  pub end : CoreState
  pub run : Run MissedPage (opening live spools) events replies end
  pub left_is : left ≡ abandoned end.live
  pub switches : EachSwitchIsAtRest MissedPage (opening live spools) end events replies
