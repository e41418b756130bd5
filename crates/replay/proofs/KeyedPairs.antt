-- Pairs that are handed on keep their keys.
use Rattle.std.proofs.Common.{◌≡◌, ℕ, List, Option, Some, None}
use Rattle.std.specs.List.{All, slice_get}
use Rattle.std.specs.List.{AllZip}
use Rattle.keybytes.specs.Keys.{KeySpecValue, IsKeyOf}
use Rattle.build_events.specs.CoreState.{BuildState}
use Rattle.table_scan.specs.SideFiles.{HaveEntryKeys}
use Rattle.build_events.specs.BuildSteps.{OnBuild}
use Rattle.side_file.specs.declared.entry.Entry.{Entry}
use Rattle.keybytes.specs.declared.pair.Pair.{Pair}
use Rattle.keybytes.specs.Pairs.{HaveKeysOf}
use Rattle.replay.specs.Listings.{ListsPair}
use Rattle.replay.specs.declared.pair_line.PairLine.{PairLine}

pub keyed_by : (spec other : KeySpecValue) (pairs others : List Pair) → other ≡ spec → others ≡ pairs
    → HaveKeysOf spec pairs → HaveKeysOf other others
keyed_by spec other pairs others same_spec same_pairs keyed = rw (same_spec, same_pairs) keyed

-- lines that list pairs list the same ones under another name
pub listed_by : (spec other : KeySpecValue) (pairs others : List Pair) (lines : List PairLine) → other ≡ spec → others ≡ pairs
    → AllZip (ListsPair other) others lines → AllZip (ListsPair spec) pairs lines
listed_by spec other pairs others lines same_spec same_pairs listed = rw (← same_spec, ← same_pairs) listed

-- the entries of the running build's index have keys of its specification
pub entry_keys :
    (build : Option BuildState) (index : ℕ) (spec : KeySpecValue) (entries : List Entry) → HaveEntryKeys build index entries
    → OnBuild build (λ b. slice_get b.specs index ≡ Some spec) → All (λ entry. IsKeyOf spec entry.key) entries
entry_keys None index spec entries keys on = absurd on
entry_keys (Some b) index spec entries keys on = keys spec on
