-- The pairs of an index as they are listed: those of a ready one, and those of the table at rest.
use Rattle.std.specs.Prelude.{◌≡◌, ℕ, ◌+◌, Vec, slice_get, List, [], ◌∷◌, Option, Some, None, ◌⊎◌}
use Rattle.std.specs.declared.alloc.Global.{Global}
use Rattle.std.specs.List.{AllZip}
use Rattle.keybytes.specs.Conditions.{condition_refusal}
use Rattle.keybytes.specs.Faults.{RefusedFor, first_cause}
use Rattle.keybytes.specs.Keys.{KeySpecValue, HasKey, key_columns_refusal}
use Rattle.keybytes.specs.declared.fault.Fault.{Fault}
use Rattle.keybytes.specs.declared.fault.Fault.TheVariants.{BadCount}
use Rattle.keybytes.specs.declared.kind.Kind.{Kind}
use Rattle.keybytes.specs.declared.when.When.{When}
use Rattle.keybytes.specs.declared.rid.Rid.{Rid}
use Rattle.heap_log.specs.declared.outcome.Outcome.{Outcome}
use Rattle.heap_log.specs.declared.outcome.Outcome.TheVariants.{Ready, Shared}
use Rattle.replay.specs.declared.shared_line.SharedLine.{SharedLine}
use Rattle.build_events.specs.CoreState.{CoreState}
use Rattle.leased_core.specs.Leasing.{OnlyVisits}
use Rattle.ready_indexes.specs.Indexes.{ReadyValue}
use Rattle.heap_table.specs.TablePairs.{pairs_at_rest}
use Rattle.keybytes.specs.declared.pair.Pair.{Pair}
use Rattle.replay.specs.declared.answer.Answer.{Answer}
use Rattle.replay.specs.declared.answer.Answer.TheVariants as answer
use Rattle.replay.specs.declared.pair_line.PairLine.{PairLine}
use Rattle.replay.specs.declared.entry_line.EntryLine.{EntryLine}
use Rattle.table_scan.specs.SideFiles.{AreEntriesLeft, side_refusal}
use Rattle.build_events.specs.BuildSteps.{OnBuild}
use Rattle.side_file.specs.declared.entry.Entry.{Entry}
use Rattle.script.specs.declared.spec.Spec.{Spec}

-- the key specification that a script names, of a table with these columns
abbrev pub key_spec_of : List Kind → Spec → KeySpecValue
key_spec_of schema spec = record { kinds = schema; columns = spec.columns.items; unique = spec.unique; condition = spec.condition }

-- why an index of a table with these columns may not have the condition, if one is named
abbrev pub when_refusal : List Kind → Option When → Option Fault
when_refusal schema None = None
when_refusal schema (Some condition) = condition_refusal schema condition

-- why a table with these columns has no such specification: for its columns, or for its condition
abbrev pub spec_refusal : List Kind → Spec → Option Fault
spec_refusal schema spec = first_cause (key_columns_refusal schema spec.columns.items) (when_refusal schema spec.condition)

-- the line lists the pair: the columns of its key, and where its row stands
abbrev pub ListsPair : KeySpecValue → Pair → PairLine → Type 0
ListsPair spec pair line = HasKey spec pair.key line.cells.items × (line.rid ≡ pair.rid)

-- the answer lists the pairs, a line each, in their order
abbrev pub ListsPairs : KeySpecValue → List Pair → Answer → Type 0
ListsPairs spec pairs given = (lines : Vec PairLine Global) × (given ≡ answer.Pairs lines) × AllZip (ListsPair spec) pairs lines.items

-- the line tells of the refused index of that number: the columns of the key that two RIDs have, and the RIDs
pub record TellsShared (index : ℕ) (spec : KeySpecValue) (key : List ℕ) (first second : Rid) (line : SharedLine) : Type 0 where
  pub number : line.index ≡ index
  pub cells : HasKey spec key line.cells.items
  pub first_is : line.first ≡ first
  pub second_is : line.second ≡ second

-- the lines tell of the indexes that these verdicts refuse, in their order, where the first verdict is on the index of that number
abbrev pub ListsShared : ℕ → List KeySpecValue → List Outcome → List SharedLine → Type 0
ListsShared number specs [] lines = lines ≡ []
ListsShared number [] (verdict ∷ verdicts) lines = ⊥
ListsShared number (spec ∷ specs) (Ready k ∷ verdicts) lines = ListsShared (number + 1) specs verdicts lines
ListsShared number (spec ∷ specs) (Shared key first second ∷ verdicts) [] = ⊥
ListsShared number (spec ∷ specs) (Shared key first second ∷ verdicts) (line ∷ lines) =
    TellsShared number spec key first second line × ListsShared (number + 1) specs verdicts lines

-- the pairs of the ready index of that number, if there is one, are listed
abbrev pub ListsReady : Option ReadyValue → Answer → Type 0
ListsReady None given = ⊥
ListsReady (Some index) given = ListsPairs index.spec index.pairs given

-- why there is no index to list
abbrev pub index_missing : Option ReadyValue → Option Fault
index_missing None = Some BadCount
index_missing (Some index) = None

-- the pairs of a ready index are listed, or there is no index of that number
abbrev pub ListsIndex : ℕ → CoreState → Answer → CoreState → Type 0
ListsIndex number old given new =
    (new ≡ old)
    × (ListsReady (slice_get old.live.ready number) given
    ⊎ ((fault : Fault) × (given ≡ answer.Refused fault) × RefusedFor (index_missing (slice_get old.live.ready number)) fault))

-- the pairs of the rows that stand are listed, or the specification is refused
abbrev pub ListsRest : Spec → CoreState → Answer → CoreState → Type 0
ListsRest spec old given new =
    OnlyVisits old new
    × (ListsPairs (key_spec_of old.live.heap.schema spec) (pairs_at_rest (key_spec_of old.live.heap.schema spec) old.live.heap.log) given
    ⊎ ((fault : Fault) × (given ≡ answer.Refused fault) × RefusedFor (spec_refusal old.live.heap.schema spec) fault))

-- the line lists the entry: what it does, the columns of its key, and where the row stands
pub record ListsEntry (spec : KeySpecValue) (entry : Entry) (line : EntryLine) : Type 0 where
  pub op : line.op ≡ entry.op
  pub key : HasKey spec entry.key line.cells.items
  pub rid : line.rid ≡ entry.rid

-- the answer lists the entries, a line each, in their order
abbrev pub ListsEntries : KeySpecValue → List Entry → Answer → Type 0
ListsEntries spec entries given = (lines : Vec EntryLine Global) × (given ≡ answer.Entries lines) × AllZip (ListsEntry spec) entries lines.items

-- the entries of the side-file of the running build's index
abbrev pub ListsLeft : CoreState → ℕ → Answer → Type 0
ListsLeft s index given =
    (spec : KeySpecValue) × (entries : List Entry) × OnBuild s.live.build (λ b. slice_get b.specs index ≡ Some spec)
    × AreEntriesLeft s.live.heap.log s.live.build index entries × ListsEntries spec entries given

-- the entries that are left in the side-file of an index are listed, or no build runs, or it has no such index
abbrev pub ListsSide : ℕ → CoreState → Answer → CoreState → Type 0
ListsSide index old given new =
    (new ≡ old)
    × (ListsLeft old index given
    ⊎ ((fault : Fault) × (given ≡ answer.Refused fault) × RefusedFor (side_refusal old.live.build index) fault))
