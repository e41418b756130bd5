-- What the log's records change in the pages that a build has read already: the entries of its side-file.
use Rattle.std.specs.Prelude.{if◌then◌else◌, List, [], ◌∷◌, ◌++◌, length, drop, filter_map, Option, Some, None}
use Rattle.std.specs.FinSet.{FinSet}
use Rattle.keybytes.specs.Pairs.{pair_cmp, set_of}
use Rattle.keybytes.specs.declared.pair.Pair.{Pair}
use Rattle.keybytes.specs.declared.rid.Rid.{Rid}
use Rattle.heap_log.specs.Growing.{changed_rid, first_records}
use Rattle.heap_log.specs.declared.record.LogRec.{LogRec}
use Rattle.heap_table.specs.TablePairs.{pair_at, written_rids}
use Rattle.visibility.specs.SideEntries.{SideEntry, changes}
use Rattle.build_events.specs.Scanning.{Scanning, is_visible}

-- what a record changes at its RID, where the build sees it
abbrev pub entries_for : Scanning → List LogRec → LogRec → Option Rid → List SideEntry
entries_for b log rec None = []
entries_for b log rec (Some rid) =
    if is_visible b (length log) rid then changes (pair_at b.spec log rid) (pair_at b.spec (log ++ rec ∷ []) rid) else []

-- the entries that a record makes which comes after those of the log
abbrev pub entries_of : Scanning → List LogRec → LogRec → List SideEntry
entries_of b log rec = entries_for b log rec (changed_rid log rec)

-- the entries that more records make, one after another
abbrev pub entries_from : Scanning → List LogRec → List LogRec → List SideEntry
entries_from b log [] = []
entries_from b log (rec ∷ more) = entries_of b log rec ++ entries_from b (log ++ rec ∷ []) more

-- the side-file: the entries of all records since the build was opened
abbrev pub side_entries : Scanning → List LogRec → List SideEntry
side_entries b log = entries_from b (first_records b.opened log) (drop b.opened log)

-- the pair at a RID, if a row stands there that the index takes, and the build sees it
abbrev pub visible_pair : Scanning → List LogRec → Rid → Option Pair
visible_pair b log rid = if is_visible b (length log) rid then pair_at b.spec log rid else None

-- the set of the pairs of the rows that stand where the build sees them, and that the index takes
abbrev pub visible_pairs : Scanning → List LogRec → FinSet pair_cmp
visible_pairs b log = set_of (filter_map (visible_pair b log) (written_rids log))
