-- What the start of a build leaves.
use Rattle.std.proofs.Common.{false, ◌≡◌, ℕ, ◌+◌, ◌≤◌, List, [], length, map, replicate, true, Some, None, refl, sym, ap, ◌∙◌, subst, ◌++◌, arith, ◌-◌}
use Rattle.std.proofs.lemmas.Bool.{false≢true}
use Rattle.std.proofs.lemmas.List.{append-nil, drop_all}
use Rattle.keybytes.specs.Keys.{KeySpecValue}
use Rattle.keybytes.specs.declared.kind.Kind.{Kind}
use Rattle.heap_log.specs.declared.record.LogRec.{LogRec}
use Rattle.heap_table.specs.Pages.{pages_written}
use Rattle.scan_range.specs.Cuts.{CutsValue}
use Rattle.side_file.specs.Ends.{PutEnd, RingId}
use Rattle.side_file.specs.declared.entry.Entry.{Entry}
use Rattle.side_file.specs.Ends.{TakeEnd}
use Rattle.page_workers.specs.declared.copied.Copied.{Copied}
use Rattle.live_lemmas.specs.Builds.{LiveValue, StandsBeside}
use Rattle.building.specs.BuildingValue.{BuildingValue, WorkValue, IndexValue, fresh, fresh_index, intakes}
use Rattle.building.specs.WorkOn.{AreFed}
use Rattle.table_scan.specs.TableBuilds.{IsBuildOf, build_over}
use Rattle.std.specs.List.{All, slice_get}
use Rattle.std.proofs.lemmas.Option.{same_Some}
use Rattle.build_events.specs.Workers.{fed_to}
use Rattle.table_scan.proofs.SideKept.{none_at}
use Rattle.building.specs.Equipped.{HasOwnSpools}
use Rattle.building.specs.Keeping.{AreWorkers}
use Rattle.building.specs.Holding.{fresh_maker}
use Rattle.build_events.specs.CoreState.{BuildState}
use Rattle.scan_range.specs.Dealings.{dealing_refusal, dealt_ends}
use Rattle.building.specs.Rings.{all_sent, put_rings, begun_on, AreOfBuilds}
use Rattle.live_lemmas.specs.Rings.{ArePutEnds}
use Rattle.table_scan.specs.SideFiles.{side_rings, drained_end}
use Rattle.scan_range.specs.declared.dealing.Dealing.{Dealing}
use Rattle.building.proofs.AtWork.{started_taking}
use Rattle.page_workers.proofs.Places.{as_long, at_map, replicate_at}
use Rattle.live_lemmas.proofs.Refusals.{works_with}
use Rattle.live_lemmas.proofs.Starts.{dealt_are_cuts}
use Rattle.table_scan.proofs.TableBuilds.{started_build}
use Rattle.building.proofs.Works.{fresh_work_on}

-- the ends that put are of the rings that they were of
pub put_ends_started :
    (page_rings entry_rings : List RingId) (pages new : List (PutEnd Copied)) (sides new_sides : List (PutEnd Entry)) → ArePutEnds page_rings entry_rings pages sides
    → put_rings new ≡ put_rings pages → side_rings new_sides ≡ side_rings sides → ArePutEnds page_rings entry_rings new new_sides
put_ends_started page_rings entry_rings pages new sides new_sides are rings side_rings_are = record {
  pages_are = rings ∙ are.pages_are;
  sides_are = side_rings_are ∙ are.sides_are;
  eight = as_long (λ (end : PutEnd Entry). end.ring) (λ (end : PutEnd Entry). end.ring) new_sides sides side_rings_are ∙ are.eight;
  sixteen = as_long (λ (end : PutEnd Copied). end.ring) (λ (end : PutEnd Copied). end.ring) new pages rings ∙ are.sixteen;
}

-- a build over the pages of that log
abbrev pub build_on : ℕ → List KeySpecValue → ℕ → List LogRec → Dealing → BuildState
build_on number specs workers log dealing =
    build_over number specs workers (length log) (record { pages = pages_written log; ends = dealt_ends (pages_written log) dealing }) [] (map (λ spec. 0) specs)

module _
    (kinds : List Kind) (log : List LogRec) (b : BuildState) (number : ℕ) (specs : List KeySpecValue) (workers opened pages : ℕ) (cuts : CutsValue) (dealing : Dealing)
    (is : b ≡ build_over number specs workers opened cuts [] (map (λ spec. 0) specs)) (records : opened ≡ length log) (dealt : cuts ≡ record { pages = pages; ends = dealt_ends pages dealing })
    (written : pages ≡ pages_written log) where
  pub build_is_on : b ≡ build_on number specs workers log dealing
  build_is_on =
      is ∙ ap (λ n. build_over number specs workers n cuts [] (map (λ spec. 0) specs)) records
      ∙ ap (λ (c : CutsValue). build_over number specs workers (length log) c [] (map (λ spec. 0) specs))
      (dealt ∙ ap (λ n. record { pages = n; ends = dealt_ends n dealing }) written)

  pub started_follows : 1 ≤ length specs → length specs ≤ 8 → All (λ (spec : KeySpecValue). spec.kinds ≡ kinds) specs → pages ≤ 65536 → dealing_refusal (pages_written log) dealing ≡ None → workers ≤ 16 → IsBuildOf kinds log b
  started_follows some few_indexes columns limit fit few =
      subst (IsBuildOf kinds log) (sym build_is_on)
      (started_build kinds log number specs workers (dealt_ends (pages_written log) dealing) some few_indexes columns (subst (λ n. n ≤ 65536) written limit)
      (dealt_are_cuts (pages_written log) dealing fit) few)

-- nothing was fed of it, and its rings are empty
started_fed :
    (b : BuildState) (indexes : List IndexValue) (puts : List (PutEnd Entry)) (ends : List (TakeEnd Entry)) → ends ≡ map drained_end puts
    → ((k : ℕ) → fed_to b k ≡ 0) → ((k : ℕ) (index : IndexValue) → slice_get indexes k ≡ Some index → index.applied ≡ 0) → AreFed b indexes puts ends
started_fed b indexes puts ends drained none fresh_ones k index put end at there taken =
    let from = at_map drained_end puts k end (ap (λ (es : List (TakeEnd Entry)). slice_get es k) (sym drained) ∙ taken) in
    let same : from.0 ≡ put = same_Some from.0 put (sym from.1 ∙ there) in
    let drained_is : end ≡ drained_end put = sym from.2 ∙ ap drained_end same in
    rw (none k, fresh_ones k index at, drained_is) (record {
      same_ring = refl;
      waiting = ap (λ es. put.sent ++ es) (drop_all (length put.sent - 0) put.sent (omega arith)) ∙ append-nil put.sent;
      counted = omega arith;
      were_sent = omega arith;
      countable = omega arith;
    })

only_fresh : (count k : ℕ) (index : IndexValue) → slice_get (replicate count fresh_index) k ≡ Some index → index.applied ≡ 0
only_fresh count k index at = ap (λ (i : IndexValue). i.applied) (replicate_at count fresh_index k index at)

-- the workers of a build that starts are at work on it
pub started_works :
    (live : LiveValue) (building : BuildingValue) (b : BuildState) (w : WorkValue) (builds : ℕ) (specs : List KeySpecValue) (workers opened : ℕ) (cuts : CutsValue)
    → live.state.build ≡ Some b → building.work ≡ Some w → building.given ≡ true → b ≡ build_over (builds + 1) specs workers opened cuts [] (map (λ spec. 0) specs)
    → w ≡ fresh (builds + 1) specs → IsBuildOf live.state.heap.schema live.state.heap.log b
    → All (λ (spec : KeySpecValue). spec.kinds ≡ live.state.heap.schema) specs → AreOfBuilds builds (all_sent live.pages)
    → intakes building.workers building.idle ≡ map (begun_on (builds + 1)) live.pages → building.sides ≡ map drained_end live.sides
    → length building.workers ≡ workers → All (λ worker. worker.maker ≡ fresh_maker live.state.heap.schema specs) building.workers
    → All (HasOwnSpools specs) building.workers → AreWorkers (builds + 1) specs false building.workers
    → building.spools ≡ [] → StandsBeside live building
started_works live building b w builds specs workers opened cuts build_is work_is given b_is w_is follows columns before intakes_are drained many makers own placed none =
    let new : BuildState = build_over (builds + 1) specs workers opened cuts [] (map (λ spec. 0) specs) in
    works_with live building b w (record {
      build_is = build_is;
      work_is = work_is;
      follows = follows;
      on = rw (b_is, w_is) (fresh_work_on live.state.heap.schema live.state.heap.log new specs refl columns);
      at_work = record {
        fed = rw (b_is, w_is) (started_fed new (replicate (length specs) fresh_index) live.sides building.sides drained (λ k. none_at specs k) (only_fresh (length specs)));
        given = given;
        many = many ∙ sym (ap (λ (x : BuildState). x.workers) b_is);
        taking = λ fine. rw (b_is, w_is) (started_taking builds live.pages before live.state.heap.schema specs building.workers building.idle intakes_are makers own placed);
        lent = λ fine scans. none;
        drained = λ fine handed. absurd (false≢true (ap (λ (x : WorkValue). x.handed) (sym w_is) ∙ handed));
        columns = λ fine handed. absurd (false≢true (ap (λ (x : WorkValue). x.handed) (sym w_is) ∙ handed));
      };
    })
