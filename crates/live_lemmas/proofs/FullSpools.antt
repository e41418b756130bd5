-- A spool that a worker found full is one of the worker's, and the pairs in it are of pages that were copied for the worker.
use Rattle.std.proofs.Common.{◌≡◌, ℕ, ◌+◌, ◌*◌, ◌<◌, false, List, [], ◌++◌, get_or, length, take, take_all, drop, Option, None, Some, sym, ap, ◌∙◌, subst, arith, inl, inr}
use Rattle.std.proofs.Common.{◌∷◌, ◌≤◌, append_assoc, length-append, take-append-drop}
use Rattle.std.proofs.lemmas.List.Sorted.{length_permutation}
use Rattle.std.specs.Prelude.{flat_map}
use Rattle.std.specs.List.{slice_get}
use Rattle.std.proofs.lemmas.List.{length-drop, take-take}
use Rattle.std.proofs.lemmas.Bool.{cases_Bool}
use Rattle.keybytes.specs.Keys.{KeySpecValue}
use Rattle.keybytes.specs.declared.fault.Fault.{Fault}
use Rattle.keybytes.specs.declared.kind.Kind.{Kind}
use Rattle.keybytes.specs.declared.pair.Pair.{Pair}
use Rattle.heap_log.specs.declared.record.LogRec.{LogRec}
use Rattle.heap_table.specs.Images.{ImageValue}
use Rattle.spool_ledger.specs.Accounts.{Stake}
use Rattle.side_file.specs.Ends.{PutEnd}
use Rattle.run_maker.specs.FullSpools.{AreSomeOf}
use Rattle.run_maker.specs.Making.{spec_at}
use Rattle.run_maker.proofs.FullSpools.{first_of, full_of_more}
use Rattle.run_maker.proofs.Spoolings.{runs_more}
use Rattle.run_spool.specs.Spools.{NoPageOnlyIf}
use Rattle.page_workers.specs.Copies.{images_of}
use Rattle.page_workers.specs.ImagePairs.{HavePairs}
use Rattle.page_workers.specs.SpoolValue.{SpoolValue, runs_of, spool_value, stakes_of}
use Rattle.side_file.specs.Ends.{after_taking}
use Rattle.page_workers.specs.Taking.{received_images, sealed_images}
use Rattle.page_workers.specs.declared.turn.Turn.{Turn}
use Rattle.page_workers.specs.declared.turn.Turn.TheVariants.{Digest, Seal}
use Rattle.page_workers.specs.Turns.{IsStopped, turn_copies, turn_images}
use Rattle.page_workers.specs.WorkerValue.{HasReceived, SameWorker, WorkerValue}
use Rattle.page_workers.specs.declared.copied.Copied.{Copied}
use Rattle.page_workers.proofs.ManyPairs.{have_split, images-append}
use Rattle.page_workers.proofs.Received.{received_after}
use Rattle.page_workers.proofs.SamePairs.{have_same}
use Rattle.page_workers.specs.IntakeValue.{IntakeValue}
use Rattle.page_workers.specs.Work.{next_images}
use Rattle.page_workers.proofs.Turns.{taken_till}
use Rattle.build_events.specs.BuildSteps.{OnBuild}
use Rattle.build_events.specs.CoreState.{BuildState, WorkerState, scanning_of}
use Rattle.build_events.specs.Scanning.{AreCopies, pairs_at_scan}
use Rattle.build_events.specs.Workers.{put_to, worker_at}
use Rattle.build_events.specs.declared.scan.Scan.{Scan}
use Rattle.keybytes.specs.declared.fault.Fault.TheVariants.{NoPage}
use Rattle.side_file.specs.Ends.{RingId}
use Rattle.index_load.proofs.SpoolPlaces.{flat_at}
use Rattle.building.specs.Keeping.{KeepsLaws}
use Rattle.live_lemmas.proofs.LoadCauses.{opened_of}
use Rattle.live_lemmas.proofs.Refusals.{worker_there}
use Rattle.live_lemmas.proofs.RunsToClose.{run_to_close}
use Rattle.live_lemmas.proofs.Waits.{begun_is, next_copied, received_copies, sealed_are, waits}
use Rattle.page_workers.proofs.Places.{all_at, at_map, below, map_at, there_is}
use Rattle.building.specs.BuildingValue.{BuildingValue, WorkValue, worker_state}
use Rattle.building.specs.Holding.{all_spools, workers_spools}
use Rattle.building.specs.Rings.{IsWorkerOf, all_sent}
use Rattle.live_lemmas.specs.Builds.{IsRunning, LiveValue, SeesRing, core_state}
use Rattle.live_lemmas.specs.FullSpools.{AreFullSince, HasRunToClose, WasFull, WorkerWasFull, pairs_by_turn, sealed_pairs, turn_scans}
use Rattle.live_lemmas.specs.Rings.{ArePut}
use Rattle.live_lemmas.proofs.CopyPairs.{copies_pairs}
use Rattle.live_lemmas.proofs.HandedOver.{spec_is}

-- copies of some scans, and of others
copies_append :
    (kinds : List Kind) (log : List LogRec) (first then : List Scan) (images others : List ImageValue) → AreCopies kinds log first images
    → AreCopies kinds log then others → AreCopies kinds log (first ++ then) (images ++ others)
copies_append kinds log [] then [] others copies more = more
copies_append kinds log [] then (image ∷ images) others copies more = absurd copies
copies_append kinds log (scan ∷ first) then [] others copies more = absurd copies
copies_append kinds log (scan ∷ first) then (image ∷ images) others copies more = (copies.0, copies_append kinds log first then images others copies.1 more)

-- it is one of the running build's
module _
    {S : Type 0} (is_full : S → Pair → Type 0) (runs : S → List (List Pair)) (open_run : S → List Pair) (stake : S → Option Stake)
    (live : LiveValue) (building : BuildingValue) (b : BuildState) (w : WorkValue) (run : IsRunning live building b w) (fine : w.spoiled ≡ None)
    (rings : length live.pages ≡ 16) (put : ArePut live.state.heap.schema live.state.heap.log b (all_sent live.pages)) (k count : ℕ)
    (sees : SeesRing k count live building) where
  abbrev it : WorkerValue
  it = sees.it

  abbrev kinds : List Kind
  kinds = live.state.heap.schema

  abbrev log : List LogRec
  log = live.state.heap.log

  abbrev sent : List Copied
  sent = sees.end.sent

  sent_there : slice_get (all_sent live.pages) k ≡ Some sent
  sent_there = map_at (λ (e : PutEnd Copied). e.sent) live.pages k sees.end sees.ring

  -- each worker has a ring
  sent_to : (j : ℕ) (worker : WorkerValue) → slice_get building.workers j ≡ Some worker → (copies : List Copied) × (slice_get (all_sent live.pages) j ≡ Some copies)
  sent_to j worker here =
      let less = below building.workers j worker here in
      let end = there_is live.pages j (omega (arith, less, run.at_work.many, run.follows.few_workers, rings)) in
      (end.0.sent, map_at (λ (e : PutEnd Copied). e.sent) live.pages j end.0 end.1)

  own_of : w.handed ≡ false → (j : ℕ) (worker : WorkerValue) → slice_get building.workers j ≡ Some worker → length worker.spools ≡ length w.specs
  own_of scans j worker here =
      let copies = sent_to j worker here in
      (run.at_work.taking fine j copies.0 worker copies.1 here).own scans

  its : IsWorkerOf b.number kinds w.specs w.handed sent it
  its = run.at_work.taking fine k sent it sent_there sees.there

  -- the copies that its turn takes are of the scans that come next
  turn_copied : (turn : Turn) → AreCopies kinds log (turn_scans turn b k (worker_state it.intake)) (turn_images turn kinds it.intake)
  turn_copied Digest = next_copied kinds log b k sent it.intake (put k sent sent_there) its.taking 1 sees.in_order
  turn_copied Seal =
      let later = drop it.intake.taken (put_to b k) in
      let known = length it.intake.end.known in
      let few = waits kinds log b k sent it.intake (put k sent sent_there) its.taking it.intake.end.known sees.in_order in
      let all : take known later ≡ later = take_all known later (omega (arith, few, length-drop it.intake.taken (put_to b k))) in
      subst (λ (scans : List Scan). AreCopies kinds log scans (turn_images Seal kinds it.intake)) all
      (next_copied kinds log b k sent it.intake (put k sent sent_there) its.taking known sees.in_order)

  -- so are those that it has taken once it has its turn
  taken_copied :
      (turn : Turn) → AreCopies kinds log (take it.intake.taken (put_to b k) ++ turn_scans turn b k (worker_state it.intake)) (received_images kinds it.intake ++ turn_images turn kinds it.intake)
  taken_copied turn =
      copies_append kinds log (take it.intake.taken (put_to b k)) (turn_scans turn b k (worker_state it.intake)) (received_images kinds it.intake) (turn_images turn kinds it.intake)
      (received_copies kinds log b k sent it.intake (put k sent sent_there) its.taking) (turn_copied turn)

  -- what it had received when it stopped is of these
  received_parts :
      (turn : Turn) (after : IntakeValue) (n : ℕ) → after.build ≡ it.intake.build → after.end ≡ after_taking n it.intake.end → n ≤ turn_copies turn it.intake
      → (rest : List ImageValue) × (received_images kinds it.intake ++ turn_images turn kinds it.intake ≡ received_images kinds after ++ rest)
  received_parts turn after n build end few =
      let known = it.intake.end.known in
      let all = take (turn_copies turn it.intake) known in
      let first : take n all ≡ take n known = take-take n (turn_copies turn it.intake) known few in
      let rest = images_of it.intake.build kinds (drop n all) in
      let split : turn_images turn kinds it.intake ≡ next_images n kinds it.intake ++ rest =
      ap (images_of it.intake.build kinds) (sym (take-append-drop n all)) ∙ images-append it.intake.build kinds (take n all) (drop n all)
      ∙ ap (λ (cs : List Copied). images_of it.intake.build kinds cs ++ rest) first in (
        rest,
        ap (λ (images : List ImageValue). received_images kinds it.intake ++ images) split
            ∙ sym (append_assoc (received_images kinds it.intake) (next_images n kinds it.intake) rest)
            ∙ ap (λ (images : List ImageValue). images ++ rest) (sym (received_after n kinds it.intake after build end)),
      )

  -- the pairs of what it had received are some of the pairs of these
  of_turn :
      (turn : Turn) (after : WorkerValue) → SameWorker it after → (n : ℕ) → after.intake.end ≡ after_taking n it.intake.end → n ≤ turn_copies turn it.intake
      → (i : ℕ) (spec : KeySpecValue) → slice_get w.specs i ≡ Some spec → (pairs : List Pair) → HasReceived after i pairs
      → AreSomeOf pairs (pairs_by_turn turn b spec log k (worker_state it.intake))
  of_turn turn after same n took few i spec is pairs got =
      let all = pairs_by_turn turn b spec log k (worker_state it.intake) in
      let columns = all_at (λ (s : KeySpecValue). s.kinds ≡ kinds) w.specs i spec run.on.columns is in
      let have = copies_pairs (scanning_of b spec) kinds log (take it.intake.taken (put_to b k) ++ turn_scans turn b k (worker_state it.intake))
      (received_images kinds it.intake ++ turn_images turn kinds it.intake) columns (taken_copied turn) in
      let parts = received_parts turn after.intake n same.build took few in
      let split = have_split spec (received_images kinds after.intake) parts.0 all (subst (λ (images : List ImageValue). HavePairs spec images all) parts.1 have) in
      let spec_same : spec_at after.maker.specs i ≡ spec =
      ap (λ (specs : List KeySpecValue). spec_at specs i) (same.specs ∙ its.specs_are) ∙ spec_is w.specs i spec is in
      let by_spec : HavePairs spec (received_images after.maker.schema after.intake) pairs =
      subst (λ (s : KeySpecValue). HavePairs s (received_images after.maker.schema after.intake) pairs) spec_same got in
      let own : HavePairs spec (received_images kinds after.intake) pairs =
      subst (λ (ks : List Kind). HavePairs spec (received_images ks after.intake) pairs) (same.schema ∙ its.schema) by_spec in
      let first : split.0 ≡ pairs = have_same spec (received_images kinds after.intake) split.0 pairs split.2 own in
      first_of pairs split.1 all (split.4 ∙ ap (λ (ps : List Pair). ps ++ split.1) first)

  -- it has another run to close
  has_run :
      (turn : Turn) (fault : Fault) (after : WorkerValue) (stopped : IsStopped is_full runs open_run stake turn it fault after) (no_page : fault ≡ NoPage) (page_rings : List RingId)
      → KeepsLaws page_rings it → w.handed ≡ false → (spec : KeySpecValue) → slice_get w.specs (stopped.full its.fine no_page).index ≡ Some spec
      → HasRunToClose turn b log k (worker_at (core_state live building).work k) spec
  has_run turn fault after stopped no_page page_rings laws scans spec is =
      let full = stopped.full its.fine no_page in
      let columns = all_at (λ (s : KeySpecValue). s.kinds ≡ kinds) w.specs full.index spec run.on.columns is in
      let opened = (opened_of w.handed it its run.on.columns laws).opened full.index spec is in
      let begun = begun_is kinds log b k sent it.intake (put k sent sent_there) its.taking spec columns (get_or it.maker.begun full.index []) opened in
      let next = flat_map (pairs_at_scan (scanning_of b spec) log) (turn_scans turn b k (worker_state it.intake)) in
      let have = copies_pairs (scanning_of b spec) kinds log (turn_scans turn b k (worker_state it.intake)) (turn_images turn kinds it.intake) columns (turn_copied turn) in
      let spec_same : spec_at it.maker.specs full.index ≡ spec =
      ap (λ (specs : List KeySpecValue). spec_at specs full.index) its.specs_are ∙ spec_is w.specs full.index spec is in
      let by_schema : HavePairs spec (turn_images turn it.maker.schema it.intake) next =
      subst (λ (ks : List Kind). HavePairs spec (turn_images turn ks it.intake) next) (sym its.schema) have in
      let own : HavePairs (spec_at it.maker.specs full.index) (turn_images turn it.maker.schema it.intake) next =
      subst (λ (s : KeySpecValue). HavePairs s (turn_images turn it.maker.schema it.intake) next) (sym spec_same) by_schema in
      let enough = run_to_close it after stopped.same is_full runs open_run stake turn fault (laws.holding its.fine (its.handed ∙ scans)) (stopped.took its.fine) full next own in
      subst (λ (state : WorkerState). HasRunToClose turn b log k state spec) (sym (worker_there live building b w run fine put k it sees.there))
      (omega (arith, enough, begun))

  -- and since its last seal it closed full runs alone
  closed_full :
      (turn : Turn) (fault : Fault) (after : WorkerValue) (stopped : IsStopped is_full runs open_run stake turn it fault after) (no_page : fault ≡ NoPage) (page_rings : List RingId)
      → KeepsLaws page_rings it → w.handed ≡ false → (spec : KeySpecValue) → slice_get w.specs (stopped.full its.fine no_page).index ≡ Some spec
      → AreFullSince (sealed_pairs b log k (worker_at (core_state live building).work k) spec) (runs (stopped.full its.fine no_page).spool)
  closed_full turn fault after stopped no_page page_rings laws scans spec is =
      let full = stopped.full its.fine no_page in
      let i = full.index in
      let columns = all_at (λ (s : KeySpecValue). s.kinds ≡ kinds) w.specs i spec run.on.columns is in
      let held = laws.holding its.fine (its.handed ∙ scans) in
      let less : i < length it.maker.specs = omega (arith, below w.specs i spec is, ap length its.specs_are) in
      let spec_same : spec_at it.maker.specs i ≡ spec = ap (λ (specs : List KeySpecValue). spec_at specs i) its.specs_are ∙ spec_is w.specs i spec is in
      let closed = held.closed i less in
      let by_spec : HavePairs spec (sealed_images it.maker.schema it.intake) closed.pairs =
      subst (λ (s : KeySpecValue). HavePairs s (sealed_images it.maker.schema it.intake) closed.pairs) spec_same closed.of_sealed in
      let own : HavePairs spec (sealed_images kinds it.intake) closed.pairs =
      subst (λ (ks : List Kind). HavePairs spec (sealed_images ks it.intake) closed.pairs) its.schema by_spec in
      let are = sealed_are kinds log b k sent it.intake (put k sent sent_there) its.taking spec columns closed.pairs own in
      subst (λ (state : WorkerState). AreFullSince (sealed_pairs b log k state spec) (runs full.spool)) (sym (worker_there live building b w run fine put k it sees.there))
      (record {
        earlier = closed.earlier;
        none_empty = closed.none_empty;
        since_seal = runs_more closed.earlier (get_or (runs_of it.spools) i []) (runs full.spool) closed.since_seal full.wants.closed;
        as_many = closed.as_many ∙ ap length are;
      })

  pub full_in_build :
      (turn : Turn) (fault : Fault) (after : WorkerValue) → IsStopped is_full runs open_run stake turn it fault after
      → (page_rings : List RingId) → KeepsLaws page_rings it → NoPageOnlyIf (WorkerWasFull is_full runs open_run stake turn (core_state live building) k) fault
  full_in_build turn fault after stopped page_rings laws = λ no_page.
      let full = stopped.full its.fine no_page in
      let took = taken_till turn it.maker.schema it.intake after.intake fault (stopped.took its.fine) in
      let some : (spec : KeySpecValue) → slice_get w.specs full.index ≡ Some spec
      → AreSomeOf full.pairs (pairs_by_turn turn b spec log k (worker_at (core_state live building).work k)) =
      λ spec is. subst (λ (state : WorkerState). AreSomeOf full.pairs (pairs_by_turn turn b spec log k state)) (sym (worker_there live building b w run fine put k it sees.there))
      (of_turn turn after stopped.same took.0 took.1 took.2 full.index spec is full.pairs full.given) in
      let seen : slice_get (stakes_of it.spools) full.index ≡ Some (stake full.spool) =
      ap (λ (l : List (Option Stake)). slice_get l full.index) (sym stopped.same.stakes)
      ∙ map_at (λ (s : SpoolValue). s.stake) after.spools full.index (spool_value runs open_run stake full.spool) full.there in
      elim (cases_Bool w.handed) [
        | inl handed ↦
            let none : slice_get (stakes_of []) full.index ≡ Some (stake full.spool) =
            subst (λ (l : List SpoolValue). slice_get (stakes_of l) full.index ≡ Some (stake full.spool)) (its.none handed) seen in
            absurd (cc)
        | inr scans ↦
            let own = at_map (λ (s : SpoolValue). s.stake) it.spools full.index (stake full.spool) seen in
            let many : length it.spools ≡ length w.specs = own_of scans k it sees.there in
            let place = flat_at (λ (v : WorkerValue). v.spools) (length w.specs) building.workers (own_of scans) k it sees.there full.index own.0 own.1 in
            let all : slice_get (stakes_of (all_spools building.workers building.spools)) (k * length w.specs + full.index) ≡ Some (stake full.spool) =
            ap (λ (home : List SpoolValue). slice_get (stakes_of (home ++ workers_spools building.workers)) (k * length w.specs + full.index)) (run.at_work.lent fine scans)
            ∙ map_at (λ (s : SpoolValue). s.stake) (workers_spools building.workers) (k * length w.specs + full.index) own.0 place ∙ ap (λ o. Some o) own.2 in
            let index = there_is w.specs full.index (let within = below it.spools full.index own.0 own.1 in omega (arith, within, many)) in
            let state = worker_at (core_state live building).work k in
            let was : WasFull is_full runs open_run stake turn b log k state (stakes_of (all_spools building.workers building.spools)) = record {
              index = full.index;
              spec = index.0;
              of_build = ap (λ (specs : List KeySpecValue). slice_get specs full.index) run.on.specs ∙ index.1;
              spool = full.spool;
              there = ap (λ (specs : List KeySpecValue). slice_get (stakes_of (all_spools building.workers building.spools)) (k * length specs + full.index)) run.on.specs ∙ all;
              full = full_of_more is_full runs open_run full.pairs (pairs_by_turn turn b index.0 log k state) full.spool (some index.0 index.1) full.full;
              left =
                  let more = some index.0 index.1 in
                  omega (
                    arith,
                    full.wants.left,
                    length-append full.pairs more.0,
                    length_permutation (full.pairs ++ more.0) (pairs_by_turn turn b index.0 log k state) more.1,
                  );
              closed = closed_full turn fault after stopped no_page page_rings laws scans index.0 index.1;
              wants = has_run turn fault after stopped no_page page_rings laws scans index.0 index.1;
            } in
            subst (λ (o : Option BuildState). OnBuild o (λ x. WasFull is_full runs open_run stake turn x log k state (stakes_of (all_spools building.workers building.spools))))
            (sym run.build_is) was
      ]
