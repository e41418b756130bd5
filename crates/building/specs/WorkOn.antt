-- How the work of a build, its workers and their spools go with the build that runs on a table.
use Rattle.std.specs.Prelude.{◌≡◌, ℕ, ◌≤◌, List, [], length, take, is_some, true, false, Option, Some, None}
use Rattle.std.specs.FinMap.{keys}
use Rattle.std.specs.List.{All, slice_get}
use Rattle.keybytes.specs.Keys.{KeySpecValue}
use Rattle.keybytes.specs.Pairs.{set_of}
use Rattle.keybytes.specs.declared.kind.Kind.{Kind}
use Rattle.keybytes.specs.declared.pair.Pair.{Pair}
use Rattle.heap_log.specs.declared.record.LogRec.{LogRec}
use Rattle.side_file.specs.Ends.{PutEnd}
use Rattle.side_file.specs.declared.entry.Entry.{Entry}
use Rattle.side_file.specs.Ends.{TakeEnd}
use Rattle.page_workers.specs.declared.copied.Copied.{Copied}
use Rattle.build_events.specs.CoreState.{BuildState, scanning_of}
use Rattle.build_events.specs.Ranges.{open_range}
use Rattle.building.specs.Holding.{HaveColumns}
use Rattle.building.specs.Rings.{all_sent, AreSealed, AreTaking}
use Rattle.build_events.specs.Scanning.{Scanning, scanned_pairs}
use Rattle.table_scan.specs.SideFiles.{IsFed}
use Rattle.build_events.specs.Workers.{fed_to}
use Rattle.build_events.specs.SideEntries.{side_entries}
use Rattle.visibility.specs.Applied.{apply_entries}
use Rattle.catch_up.specs.Built.{BuiltValue}
use Rattle.building.specs.BuildingValue.{BuildingValue, IndexValue, IsUnloaded, WorkValue}

-- these are the pairs that were read, with the first so many entries of the side-file applied to them, in order
abbrev pub IsCaughtUpTo : ℕ → Scanning → List LogRec → List Pair → Type 0
IsCaughtUpTo applied b log pairs = pairs ≡ keys (apply_entries (take applied (side_entries b log)) (set_of (scanned_pairs b log)))

-- it is the work on an index of that build, of that specification
pub record IsIndexOn (log : List LogRec) (b : BuildState) (spec : KeySpecValue) (index : IndexValue) : Type 0 where
  -- its pairs are in order only once no page is left to copy
  pub all : is_some index.built ≡ true → open_range b ≡ None
  -- no entry was applied before, nor one that the side-file has not
  pub none_before : index.built ≡ None → index.applied ≡ 0
  pub there : index.applied ≤ length (side_entries (scanning_of b spec) log)
  -- in order they are the index's, with that number
  pub loaded : (built : BuiltValue) → index.built ≡ Some built → IsCaughtUpTo index.applied (scanning_of b spec) log built.pairs
  pub of_build : (built : BuiltValue) → index.built ≡ Some built → built.build ≡ b.number
  -- and keep a tally where the index is unique
  pub of_spec : (built : BuiltValue) → index.built ≡ Some built → built.unique ≡ spec.unique

-- it is the work on these indexes of that build
abbrev pub AreIndexesOn : List LogRec → BuildState → List IndexValue → Type 0
AreIndexesOn log b indexes =
    (k : ℕ) (spec : KeySpecValue) (index : IndexValue) → slice_get b.specs k ≡ Some spec → slice_get indexes k ≡ Some index → IsIndexOn log b spec index

-- it is the work of that build
pub record IsWorkOfBuild (kinds : List Kind) (log : List LogRec) (b : BuildState) (work : WorkValue) : Type 0 where
  pub number : work.build ≡ b.number
  pub specs : b.specs ≡ work.specs
  pub columns : All (λ spec. spec.kinds ≡ kinds) work.specs
  pub many : length work.indexes ≡ length b.specs
  pub indexes : AreIndexesOn log b work.indexes

-- there is work exactly where a build runs, and it is that build's
abbrev pub WorkMatches : List Kind → List LogRec → Option BuildState → Option WorkValue → Type 0
WorkMatches kinds log None None = Unit {0}
WorkMatches kinds log None (Some work) = ⊥
WorkMatches kinds log (Some b) None = ⊥
WorkMatches kinds log (Some b) (Some work) = IsWorkOfBuild kinds log b work

-- of that index the entries that were fed and not applied wait in the ring between these ends
abbrev pub IsIndexFed : BuildState → List IndexValue → List (PutEnd Entry) → List (TakeEnd Entry) → ℕ → Type 0
IsIndexFed b indexes puts ends k =
    (index : IndexValue) (put : PutEnd Entry) (end : TakeEnd Entry) → slice_get indexes k ≡ Some index → slice_get puts k ≡ Some put
    → slice_get ends k ≡ Some end → IsFed (fed_to b k) index.applied put end

-- so it is of each
abbrev pub AreFed : BuildState → List IndexValue → List (PutEnd Entry) → List (TakeEnd Entry) → Type 0
AreFed b indexes puts ends = (k : ℕ) → IsIndexFed b indexes puts ends k

-- the entries that were fed and not applied wait in the side-files' rings, the build has the spools, and its workers are at work on what
-- their rings were sent; of a spoiled build only the first two are known
pub record AreAtWork
    (kinds : List Kind) (b : BuildState) (pages : List (PutEnd Copied)) (sides : List (PutEnd Entry)) (building : BuildingValue) (work : WorkValue)
    : Type 0 where
  pub fed : AreFed b work.indexes sides building.sides
  pub given : building.given ≡ true
  pub many : length building.workers ≡ b.workers
  pub taking : work.spoiled ≡ None → AreTaking b.number kinds work.specs work.handed (all_sent pages) building.workers
  -- until they hand their spools over each is with its worker
  pub lent : work.spoiled ≡ None → work.handed ≡ false → building.spools ≡ []
  -- from then on nothing is left to scan or to take
  pub drained : work.spoiled ≡ None → work.handed ≡ true → (open_range b ≡ None) × AreSealed (all_sent pages) building.workers
  pub columns : work.spoiled ≡ None → work.handed ≡ true → HaveColumns (λ index. IsUnloaded index work) work.specs building.workers building.spools

-- the same for the build that runs, if one does
abbrev pub WorkersFollow : List Kind → List (PutEnd Copied) → List (PutEnd Entry) → BuildingValue → Option BuildState → Option WorkValue → Type 0
WorkersFollow kinds pages sides building None work = Unit {0}
WorkersFollow kinds pages sides building (Some b) None = Unit {0}
WorkersFollow kinds pages sides building (Some b) (Some work) = AreAtWork kinds b pages sides building work
