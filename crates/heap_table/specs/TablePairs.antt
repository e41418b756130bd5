-- The pairs of key and RID of the rows that stand and that the index takes: the set of them, their order, and those of each page.
use Rattle.std.specs.Prelude.{ℕ, List, map, flat_map, filter_map, Option, Some}
use Rattle.std.specs.List.{range_with_len}
use Rattle.std.specs.FinSet.{FinSet}
use Rattle.std.specs.FinMap.{keys}
use Rattle.keybytes.specs.Keys.{KeySpecValue}
use Rattle.keybytes.specs.Pairs.{pair_cmp, pair_with, set_of}
use Rattle.keybytes.specs.declared.cell.Cell.{Cell}
use Rattle.keybytes.specs.declared.pair.Pair.{Pair}
use Rattle.keybytes.specs.declared.rid.Rid.{Rid}
use Rattle.heap_log.specs.declared.record.LogRec.{LogRec}
use Rattle.heap_log.specs.Standing.{live_at, place_of}
use Rattle.heap_table.specs.Pages.{rid_at, slots_written}

-- the pair at a RID, if a row stands there that the index takes
abbrev pub pair_at : KeySpecValue → List LogRec → Rid → Option Pair
pair_at spec log rid = pair_with spec rid (live_at log rid)

-- the pair of a row with its RID, if the index takes the row
abbrev pub pair_of : KeySpecValue → Rid × List Cell → Option Pair
pair_of spec row = pair_with spec row.0 (Some row.1)

-- the RIDs that the log writes
abbrev pub written_rids : List LogRec → List Rid
written_rids log = filter_map (λ rec. place_of (Some rec)) log

-- the set of the pairs of the rows that stand and that the index takes
abbrev pub index_pairs : KeySpecValue → List LogRec → FinSet pair_cmp
index_pairs spec log = set_of (filter_map (pair_at spec log) (written_rids log))

-- the same pairs in order, each once
abbrev pub pairs_at_rest : KeySpecValue → List LogRec → List Pair
pairs_at_rest spec log = keys (index_pairs spec log)

-- the RIDs of a page, by slot
abbrev pub rids_on : List LogRec → ℕ → List Rid
rids_on log page = map (rid_at page) (range_with_len 0 (slots_written log page))

-- the pairs of the rows on a page, by slot
abbrev pub pairs_on : KeySpecValue → List LogRec → ℕ → List Pair
pairs_on spec log page = filter_map (pair_at spec log) (rids_on log page)

-- the pairs of the rows on so many pages from that one on, by page and slot
abbrev pub pairs_from : KeySpecValue → List LogRec → ℕ → ℕ → List Pair
pairs_from spec log first count = flat_map (pairs_on spec log) (range_with_len first count)
