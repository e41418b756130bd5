-- What a load leaves, as callers see it.
use Rattle.std.proofs.Common.{◌≡◌, ℕ, ◌-◌, ◌*◌, ◌<◌, true, List, [], ◌++◌, length, take, take_all, Option, Some, None, Result, Ok, Err, IfOk, IfErr, IfSome, OnErr}
use Rattle.std.proofs.Common.{Bool, false, if◌then◌else◌, set, inl, inr, refl, sym, ap, ◌∙◌, subst, arith}
use Rattle.std.specs.Prelude.{is_some, flat_map, IsPermutation}
use Rattle.std.specs.List.{slice_get}
use Rattle.std.proofs.lemmas.Bool.{false≢true}
use Rattle.std.proofs.lemmas.List.{append-nil, map-append, map-set}
use Rattle.std.proofs.lemmas.List.Sorted.{IsPermutation-trans, IsPermutation-sym, length_permutation}
use Rattle.std.proofs.lemmas.Option.{same_Some, get_or_from_slice_get}
use Rattle.keybytes.specs.Keys.{KeySpecValue}
use Rattle.keybytes.specs.declared.fault.Fault.{Fault}
use Rattle.keybytes.specs.declared.pair.Pair.{Pair}
use Rattle.side_file.specs.Ends.{PutEnd}
use Rattle.page_workers.specs.declared.copied.Copied.{Copied}
use Rattle.index_load.specs.Columns.{column, ended_column}
use Rattle.bulk_load.specs.Each.{AreEachOnce}
use Rattle.index_load.proofs.Columns.{every_elsewhere, kept_changed, length-changed}
use Rattle.index_load.proofs.SpoolPlaces.{column_many}
use Rattle.live_lemmas.specs.Builds.{LiveValue, IsRunning, StandsBeside}
use Rattle.building.specs.BuildingValue.{BuildingValue, WorkValue, IndexValue, IsUnloaded, with_index, with_pairs, work_state, index_state}
use Rattle.building.specs.WorkOn.{IsIndexOn, AreFed}
use Rattle.live_lemmas.specs.Builds.{core_state}
use Rattle.build_events.specs.CoreState.{BuildState, IndexState, WorkState, SpoolsState, scanning_of}
use Rattle.page_workers.specs.Holding.{HoldsPairs}
use Rattle.page_workers.specs.SpoolValue.{SpoolValue, ended_spool, pairs_in, runs_of}
use Rattle.page_workers.specs.Taking.{received_images}
use Rattle.keybytes.specs.declared.kind.Kind.{Kind}
use Rattle.building.specs.Holding.{HaveColumns, all_spools, workers_spools, spools_state}
use Rattle.run_spool.specs.Spools.{AreSorted, all_pairs}
use Rattle.std.specs.Prelude.{All, map}
use Rattle.build_events.specs.Ranges.{open_range}
use Rattle.live_lemmas.specs.Rings.{ArePut, PagesFollow}
use Rattle.build_events.specs.Scanning.{pairs_at_scan, scanned_pairs}
use Rattle.build_events.specs.BuildSteps.{OnBuild, Loads, pairs_copied, after_load}
use Rattle.table_scan.specs.SideFiles.{IsFed}
use Rattle.build_events.specs.Workers.{put_to, fed_to, index_at}
use Rattle.catch_up.specs.Built.{BuiltValue}
use Rattle.building.specs.Keeping.{HaveEachOnce}
use Rattle.building.specs.Working.{CanLoad, HasLoaded, HasSorted}
use Rattle.building.proofs.Spoiled.{IsSpoiled}
use Rattle.building.specs.Rings.{AreSealed, all_sent}
use Rattle.page_workers.specs.WorkerValue.{IsHolding}
use Rattle.build_events.specs.declared.scan.Scan.{Scan}
use Rattle.live_lemmas.proofs.HandedOver.{all_lent, handed_run, left as left_over, spec_is}
use Rattle.live_lemmas.proofs.Partition.{parts_together}
use Rattle.building.proofs.LoadedKept.{pairs_by_spool}
use Rattle.building.proofs.Unloaded.{not_this, unloaded_before}
use Rattle.page_workers.proofs.Places.{there_is, at_set, set_same, map_at, below, all_at}
use Rattle.live_lemmas.proofs.Refusals.{state_of, state_is, works_with}
use Rattle.live_lemmas.proofs.Takes.{spoiled_works, put_of}
use Rattle.live_lemmas.proofs.Waits.{waits, held_pairs}
use Rattle.std.proofs.lemmas.Map.Keys.{IsDistinct-IsPermutation}
use Rattle.std.proofs.lemmas.Cmp.{eq_by_cmp_equiv}
use Rattle.std.specs.Ordering.{eq_by_cmp}
use Rattle.keybytes.specs.Pairs.{pair_cmp}
use Rattle.keybytes.proofs.PairSets.{pairs_total}
use Rattle.build_events.proofs.Distinct.{scanned_distinct}
use Rattle.building.proofs.Works.{sorted_work_on}

-- what was put for the running build, told of a table from within
pub put_inside :
    (inside live : LiveValue) (b : BuildState) → inside ≡ live → live.state.build ≡ Some b
    → PagesFollow inside.state.heap.schema inside.state.heap.log inside.state.builds inside.state.build (all_sent inside.pages)
    → ArePut live.state.heap.schema live.state.heap.log b (all_sent live.pages)
put_inside inside live b same is follow =
    put_of live b is
    (subst (λ (l : LiveValue). PagesFollow l.state.heap.schema l.state.heap.log l.state.builds l.state.build (all_sent l.pages)) same follow)

module _
    (live : LiveValue) (building : BuildingValue) (b : BuildState) (w : WorkValue) (run : IsRunning live building b w) (fine : w.spoiled ≡ None)
    (put : ArePut live.state.heap.schema live.state.heap.log b (all_sent live.pages)) (rings : length live.pages ≡ 16) (loads : w.handed ≡ true) where
  columns : HaveColumns (λ index. IsUnloaded index w) w.specs building.workers building.spools
  columns = run.at_work.columns fine loads

  all : open_range b ≡ None
  all = (run.at_work.drained fine loads).0

  -- one index
  module _ (index : ℕ) (spec : KeySpecValue) (is : slice_get w.specs index ≡ Some spec) where
    abbrev scanned : List Pair
    scanned = scanned_pairs (scanning_of b spec) live.state.heap.log

    abbrev own : List SpoolValue
    own = column index (length w.specs) building.spools

    index_there : index < length w.specs
    index_there = below w.specs index spec is

    -- the spool of a sealed worker holds the pairs of all pages that were copied for it
    own_pairs :
        IsUnloaded index w → (k : ℕ) (spool : SpoolValue) → k < b.workers → slice_get own k ≡ Some spool
        → IsPermutation (all_pairs spool.runs) (flat_map (pairs_at_scan (scanning_of b spec) live.state.heap.log) (put_to b k))
    own_pairs none k spool less lent =
        let kinds = all_at (λ (s : KeySpecValue). s.kinds ≡ live.state.heap.schema) w.specs index spec run.on.columns is in
        let end = there_is live.pages k (omega (arith, less, run.follows.few_workers, rings)) in
        let it = there_is building.workers k (omega (arith, less, run.at_work.many)) in
        let sent : List Copied = end.0.sent in
        let there : slice_get (all_sent live.pages) k ≡ Some sent = map_at (λ (e : PutEnd Copied). e.sent) live.pages k end.0 end.1 in
        let done = (run.at_work.drained fine loads).1 k sent it.0 there it.1 in
        let its = run.at_work.taking fine k sent it.0 there it.1 in
        let taken : it.0.intake.end.received ++ [] ≡ sent = append-nil it.0.intake.end.received ∙ done.taken in
        let rest = waits live.state.heap.schema live.state.heap.log b k sent it.0.intake (put k sent there) its.taking [] taken in
        let held : HoldsPairs spec (received_images spec.kinds it.0.intake) spool.runs [] =
        subst (λ (ks : List Kind). HoldsPairs spec (received_images ks it.0.intake) spool.runs []) (its.schema ∙ sym kinds)
        (subst (λ (s : KeySpecValue). HoldsPairs s (received_images it.0.maker.schema it.0.intake) spool.runs []) (spec_is w.specs index spec is)
        (columns.pairs index k it.0 spool index_there none it.1 lent)) in
        let whole : take it.0.intake.taken (put_to b k) ≡ put_to b k = take_all it.0.intake.taken (put_to b k) (omega (arith, rest)) in
        subst (λ (scans : List Scan). IsPermutation (all_pairs spool.runs) (flat_map (pairs_at_scan (scanning_of b spec) live.state.heap.log) scans)) whole
        (subst (λ (ps : List Pair). IsPermutation ps (flat_map (pairs_at_scan (scanning_of b spec) live.state.heap.log) (take it.0.intake.taken (put_to b k))))
        (append-nil (all_pairs spool.runs))
        (held_pairs live.state.heap.schema live.state.heap.log b k sent it.0.intake (put k sent there) its.taking spec kinds spool.runs [] held))

    -- all together hold those of all pages
    together : IsUnloaded index w → IsPermutation (pairs_in own) scanned
    together none =
        let many = column_many (length w.specs) b.workers index building.spools index_there (columns.many ∙ ap (λ (m : ℕ). m * length w.specs) run.at_work.many) in
        let all : take b.workers own ≡ own = take_all b.workers own (omega (arith, many)) in
        let each : flat_map (λ (s : SpoolValue). all_pairs s.runs) (take b.workers own) ≡ pairs_in own =
        ap (flat_map (λ (s : SpoolValue). all_pairs s.runs)) all ∙ sym (pairs_by_spool own) in
        subst (λ (ps : List Pair). IsPermutation ps scanned) each
        (parts_together (λ (s : SpoolValue). all_pairs s.runs) (λ (s : Scan). s.worker) (pairs_at_scan (scanning_of b spec) live.state.heap.log) b.scans
        own b.workers (omega (arith, many)) run.follows.for_workers (own_pairs none))

    -- none of them is there twice
    pub each_once : IsUnloaded index w → AreEachOnce (pairs_in own)
    each_once none =
        IsDistinct-IsPermutation (eq_by_cmp pair_cmp) (eq_by_cmp_equiv pairs_total).symm scanned (pairs_in own)
        (IsPermutation-sym (pairs_in own) scanned (together none))
        (scanned_distinct (scanning_of b spec) live.state.heap.log b.scans (run.follows.scanned spec).once)

  -- an index of the build can be loaded
  pub can_load : (index : ℕ) → index < length w.specs → CanLoad index building
  can_load index less = record { work = w; runs = run.work_is; there = less; fine = fine; loads = loads }

  abbrev before : WorkState
  before = work_state building.workers building.work

  -- one index of the build, as it is
  module _
      (index : ℕ) (spec : KeySpecValue) (is : slice_get w.specs index ≡ Some spec) (it : IndexValue) (at : slice_get w.indexes index ≡ Some it) where
    -- what a load of that build's index answers
    abbrev load_answer : BuildState → ℕ
    load_answer x = if (index_at before.indexes index).loaded then 0 else pairs_copied x live.state.heap.log (slice_get x.specs index)

    spec_at : slice_get b.specs index ≡ Some spec
    spec_at = ap (λ (specs : List KeySpecValue). slice_get specs index) run.on.specs ∙ is

    on : IsIndexOn live.state.heap.log b spec it
    on = run.on.indexes index spec it spec_at at

    less : index < length w.specs
    less = below w.specs index spec is

    here : index < length w.indexes
    here = below w.indexes index it at

    seen_at : index_at (map index_state w.indexes) index ≡ index_state it
    seen_at = get_or_from_slice_get (map index_state w.indexes) index (index_state it) _ (map_at index_state w.indexes index it at)

    seen : index_at before.indexes index ≡ index_state it
    seen = ap (λ (s : WorkState). index_at s.indexes index) (state_is building w run.work_is fine) ∙ seen_at

    unloaded : it.built ≡ None → IsUnloaded index w
    unloaded none i there = ap (λ (x : IndexValue). x.built) (same_Some i it (sym there ∙ at)) ∙ none

    abbrev made : List Pair
    made = pairs_in (column index (length w.specs) building.spools)

    abbrev index_pairs : List Pair
    index_pairs = scanned_pairs (scanning_of b spec) live.state.heap.log

    module _ (new : BuildingValue) (count : ℕ) (none : it.built ≡ None) (done : HasSorted index w building count new) where
      abbrev loaded_it : IndexValue
      loaded_it = record { built = Some (with_pairs w index done.pairs); applied = 0 }

      abbrev sorted : WorkValue
      sorted = with_index w index done.pairs 0

      abbrev left : BuildingValue
      left = record building { spools = ended_column index (length w.specs) building.spools; work = Some sorted }

      not_applied : it.applied ≡ 0
      not_applied = on.none_before none

      all_there : IsPermutation made index_pairs
      all_there = together index spec is (unloaded none)

      fed_left : AreFed b sorted.indexes live.sides left.sides
      fed_left k i put end there putting taking = elim (at_set w.indexes index loaded_it k i there) [
        | inl same ↦
            let was = run.at_work.fed k it put end (ap (slice_get w.indexes) same.0 ∙ at) putting taking in
            let applied : i.applied ≡ 0 = ap (λ (x : IndexValue). x.applied) same.1 in
            subst (λ (n : ℕ). IsFed (fed_to b k) n put end) (not_applied ∙ sym applied) was
        | inr other ↦ run.at_work.fed k i put end other.1 putting taking
      ]

      elsewhere : (i : ℕ) → i < length w.specs → IsUnloaded i sorted → column i (length w.specs) left.spools ≡ column i (length w.specs) building.spools
      elsewhere i below none =
          every_elsewhere ended_spool (length w.specs - 1) i index building.spools (omega (arith, below)) (omega (arith, less)) (not_this w index (with_pairs w index done.pairs) 0 here i none)

      columns_left : HaveColumns (λ i. IsUnloaded i sorted) w.specs building.workers left.spools
      columns_left = record {
        many = length-changed ended_spool (length w.specs - 1) index building.spools ∙ columns.many;
        sorted = λ i below none.
            subst (λ (l : List SpoolValue). All AreSorted (runs_of l)) (sym (elsewhere i below none))
            (columns.sorted i below (unloaded_before w index (with_pairs w index done.pairs) 0 here i none));
        pairs = λ i k worker spool below none at lent.
            columns.pairs i k worker spool below (unloaded_before w index (with_pairs w index done.pairs) 0 here i none) at
            (ap (λ (l : List SpoolValue). slice_get l k) (sym (elsewhere i below none)) ∙ lent);
      }

      sorted_works : StandsBeside live new
      sorted_works =
          subst (StandsBeside live) (sym done.left)
          (works_with live left b sorted (record {
            build_is = run.build_is;
            work_is = refl;
            follows = run.follows;
            on = sorted_work_on live.state.heap.schema live.state.heap.log b w index spec made done.pairs run.on spec_at all all_there done.moved done.ordered;
            at_work = record {
              fed = fed_left;
              given = run.at_work.given;
              many = run.at_work.many;
              taking = λ f. run.at_work.taking fine;
              lent = λ f e. absurd (false≢true (sym e ∙ loads));
              drained = λ f. run.at_work.drained fine;
              columns = λ f e. columns_left;
            };
          }))

      counted : count ≡ length index_pairs
      counted =
          done.counted ∙ length_permutation index_pairs done.pairs
          (IsPermutation-trans index_pairs made done.pairs (IsPermutation-sym made index_pairs all_there) done.moved)

      state_left : work_state left.workers left.work ≡ after_load before index
      state_left =
          let now : index_state loaded_it ≡ record (index_at (map index_state w.indexes) index) { loaded = true } =
          ap (λ (n : ℕ). record { loaded = true; applied = n }) (sym not_applied) ∙ ap (λ (i : IndexState). record i { loaded = true }) (sym seen_at) in
          state_is left sorted refl fine
          ∙ ap (λ (is : List IndexState). record (state_of building w) { indexes = is })
          (map-set index_state w.indexes index loaded_it ∙ ap (set (map index_state w.indexes) index) now)
          ∙ sym (ap (λ (s : WorkState). after_load s index) (state_is building w run.work_is fine))

      -- the spools are given, as they were
      spools_left : spools_state left.given (all_spools left.workers left.spools) ≡ spools_state building.given (all_spools building.workers building.spools)
      spools_left =
          let stake : SpoolValue → _ = λ s. s.stake in
          let lent : List SpoolValue = workers_spools building.workers in
          rw run.at_work.given (ap (λ stakes. record { stakes = stakes; left = [] })
          (map-append stake left.spools lent
          ∙ ap (λ l. l ++ map stake lent) (kept_changed ended_spool stake (λ s. refl) (length w.specs - 1) index building.spools)
          ∙ sym (map-append stake building.spools lent)))

      answer_is : count ≡ load_answer b
      answer_is =
          counted
          ∙ ap (pairs_copied b live.state.heap.log) (sym spec_at)
          ∙ ap (λ (loaded : Bool). if loaded then 0 else pairs_copied b live.state.heap.log (slice_get b.specs index))
          (sym (ap (λ (i : IndexState). i.loaded) seen ∙ ap is_some none))

      sorted_loads : Loads index (core_state live building) count (core_state live new)
      sorted_loads =
          subst (λ (o : Option BuildState). OnBuild o (λ x. (count ≡ load_answer x)
          × (core_state live new ≡ record (core_state live building) { work = after_load before index })))
          (sym run.build_is) (
            answer_is,
            ap (core_state live) done.left ∙ ap (λ (s : WorkState). record { live = live.state; work = s; spools = spools_state left.given (all_spools left.workers left.spools) }) state_left
                ∙ ap (λ (s : SpoolsState). record { live = live.state; work = after_load before index; spools = s }) spools_left,
          )

    -- where they are in order already nothing changes
    again_loads : is_some it.built ≡ true → (count : ℕ) → count ≡ 0 → Loads index (core_state live building) count (core_state live building)
    again_loads some count is_none =
        let states : List IndexState = map index_state w.indexes in
        let kept : index_state it ≡ record (index_at states index) { loaded = true } =
        ap (λ (l : Bool). record { loaded = l; applied = it.applied }) some ∙ ap (λ (i : IndexState). record i { loaded = true }) (sym seen_at) in
        let state : before ≡ after_load before index =
        state_is building w run.work_is fine
        ∙ ap (λ (is : List IndexState). record (state_of building w) { indexes = is })
        (sym (set_same states index (index_state it) (map_at index_state w.indexes index it at)) ∙ ap (set states index) kept)
        ∙ sym (ap (λ (s : WorkState). after_load s index) (state_is building w run.work_is fine)) in
        let loaded : (index_at before.indexes index).loaded ≡ true = ap (λ (i : IndexState). i.loaded) seen ∙ some in
        subst (λ (o : Option BuildState). OnBuild o (λ x. (count ≡ load_answer x)
        × (core_state live building ≡ record (core_state live building) { work = after_load before index })))
        (sym run.build_is)
        (rw loaded is_none, ap (λ (s : WorkState). record { live = live.state; work = s; spools = spools_state building.given (all_spools building.workers building.spools) }) state)

    module _ (new : BuildingValue) (count : ℕ) (done : HasLoaded index building count new) where
      same : done.work ≡ w
      same = same_Some done.work w (sym done.runs ∙ run.work_is)

      same_it : done.it ≡ it
      same_it = same_Some done.it it (sym done.there ∙ ap (λ (v : WorkValue). slice_get v.indexes index) same ∙ at)

      first : it.built ≡ None → HasSorted index w building count new
      first none =
          subst (λ (v : WorkValue). HasSorted index v building count new) same (done.first (ap (λ (x : IndexValue). x.built) same_it ∙ none))

      again : is_some it.built ≡ true → (count ≡ 0) × (new ≡ building)
      again some = done.again (ap (λ (x : IndexValue). is_some x.built) same_it ∙ some)

      loaded_works : (o : Option BuiltValue) → it.built ≡ o → StandsBeside live new
      loaded_works None none = sorted_works new count none (first none)
      loaded_works (Some built) there = subst (StandsBeside live) (sym (again (ap is_some there)).1) (works_with live building b w run)

      loaded_loads : (o : Option BuiltValue) → it.built ≡ o → Loads index (core_state live building) count (core_state live new)
      loaded_loads None none = sorted_loads new count none (first none)
      loaded_loads (Some built) there =
          let done_before = again (ap is_some there) in
          subst (λ (n : BuildingValue). Loads index (core_state live building) count (core_state live n)) (sym done_before.1)
          (again_loads (ap is_some there) count done_before.0)

  module _ (index : ℕ) (less : index < length w.specs) where
    its_spec : (spec : KeySpecValue) × (slice_get w.specs index ≡ Some spec)
    its_spec = there_is w.specs index less

    its_index : (it : IndexValue) × (slice_get w.indexes index ≡ Some it)
    its_index = there_is w.indexes index (let many = run.on.many ∙ ap length run.on.specs in omega (arith, less, many))

    -- whatever the load answered, all goes on
    pub works_after_load :
        (new : BuildingValue) (answer : Result ℕ Fault) → IfOk answer (λ count. HasLoaded index building count new)
        → IfErr answer (λ fault. IsSpoiled fault building new) → StandsBeside live new
    works_after_load new (Ok count) done spoiled = loaded_works index its_spec.0 its_spec.1 its_index.0 its_index.1 new count done its_index.0.built refl
    works_after_load new (Err fault) done spoiled = spoiled_works live fault building new b w run spoiled

    pub loads_after :
        (new : BuildingValue) (answer : Result ℕ Fault) → IfOk answer (λ count. HasLoaded index building count new)
        → IfOk answer (λ count. Loads index (core_state live building) count (core_state live new))
    loads_after new (Ok count) done = loaded_loads index its_spec.0 its_spec.1 its_index.0 its_index.1 new count done its_index.0.built refl
    loads_after new (Err fault) done = tt

    -- memory is wanted only where they aren't in order yet
    pub wanted_first :
        (answer : Result ℕ Fault) → OnErr answer (IfSome building.work (IsUnloaded index)) → OnErr answer ((index_at before.indexes index).loaded ≡ false)
    wanted_first (Ok count) none = tt
    wanted_first (Err fault) none =
        let empty : IsUnloaded index w = subst (λ (o : Option WorkValue). IfSome o (IsUnloaded index)) run.work_is none in
        ap (λ (i : IndexState). i.loaded) (seen index its_spec.0 its_spec.1 its_index.0 its_index.1) ∙ ap is_some (empty its_index.0 its_index.1)

-- of what the workers of a build hold no pair of an index is there twice, once all have taken what their rings were sent
pub lent_once :
    (live : LiveValue) (building : BuildingValue) (b : BuildState) (w : WorkValue) (run : IsRunning live building b w) (fine : w.spoiled ≡ None)
    (scans : w.handed ≡ false) (rings : length live.pages ≡ 16) (sealed : AreSealed (all_sent live.pages) building.workers) (all : open_range b ≡ None)
    (holding : All (λ worker. IsHolding worker.intake worker.maker worker.spools) building.workers)
    → ArePut live.state.heap.schema live.state.heap.log b (all_sent live.pages) → HaveEachOnce w (workers_spools building.workers)
lent_once live building b w run fine scans rings sealed all holding put index less none =
    let after = left_over live building b w run fine scans rings sealed all holding in
    let spec = there_is w.specs index less in
    subst (λ (l : List SpoolValue). AreEachOnce (pairs_in (column index (length w.specs) l))) (all_lent live building b w run fine scans rings sealed all holding)
    (each_once live after b (record w { handed = true }) (handed_run live building b w run fine scans rings sealed all holding) fine put rings refl index spec.0 spec.1 none)
