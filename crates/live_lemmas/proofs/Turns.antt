-- What a worker's turn leaves, as callers see it.
use Rattle.std.proofs.Common.{◌≡◌, ℕ, ◌+◌, ◌<◌, true, All, List, [], ◌++◌, length, map, min, take, drop, set, get_or, Option, Some, None, Result, Ok, Err, IfOk, IfErr}
use Rattle.std.proofs.Common.{refl, sym, ap, ap₂, ◌∙◌, subst, arith, inl, inr, append-nil}
use Rattle.std.specs.List.{slice_get}
use Rattle.std.proofs.Math.Seq.{drop-nil, take-nil}
use Rattle.std.proofs.lemmas.Bool.{cases_Bool}
use Rattle.std.proofs.lemmas.List.{append_cancel_left}
use Rattle.std.proofs.lemmas.Option.{same_Some}
use Rattle.keybytes.specs.Keys.{KeySpecValue}
use Rattle.keybytes.specs.declared.fault.Fault.{Fault}
use Rattle.keybytes.specs.declared.kind.Kind.{Kind}
use Rattle.keybytes.specs.declared.pair.Pair.{Pair}
use Rattle.side_file.specs.Ends.{PutEnd}
use Rattle.spool_ledger.specs.Accounts.{Stake}
use Rattle.run_maker.specs.Making.{MakerValue}
use Rattle.page_workers.specs.declared.turn.Turn.{Turn}
use Rattle.page_workers.specs.declared.turn.Turn.TheVariants.{Digest, Seal}
use Rattle.page_workers.specs.Holding.{HoldsOpen}
use Rattle.page_workers.specs.IntakeValue.{IntakeValue}
use Rattle.page_workers.specs.Taking.{IsTaking, received_images, unsealed_images}
use Rattle.page_workers.specs.Turns.{HasDone, IsStopped, after_turn, marked, turn_copies, turn_images}
use Rattle.page_workers.specs.Work.{next_images}
use Rattle.page_workers.specs.Work.{after_digest as digests}
use Rattle.page_workers.specs.WorkerValue.{WorkerValue}
use Rattle.page_workers.specs.declared.copied.Copied.{Copied}
use Rattle.page_workers.proofs.Turns.{behind_known, seal_saw}
use Rattle.page_workers.proofs.Digests.{next_known, same_worker}
use Rattle.page_workers.proofs.Taking.{digested_taking, next_count, sealed_open, sealed_taking, sent_count}
use Rattle.live_lemmas.specs.Builds.{LiveValue, IsRunning, SeesRing, StandsBeside, core_state}
use Rattle.building.specs.BuildingValue.{BuildingValue, WorkValue, worker_state, work_state, index_state}
use Rattle.build_events.specs.CoreState.{BuildState, CoreState, WorkerState, WorkState, SpoolsState}
use Rattle.building.specs.Holding.{all_spools, spools_state}
use Rattle.live_lemmas.specs.Rings.{all_images, ArePut}
use Rattle.building.specs.Rings.{all_sent, IsSealed, IsWorkerOf}
use Rattle.build_events.specs.BuildSteps.{OnBuild, Waits, next_copies}
use Rattle.build_events.specs.BuildSteps.{after_digest as digested, after_seal as sealed}
use Rattle.build_events.specs.Workers.{put_to, waiting, worker_at}
use Rattle.live_lemmas.specs.Turns.{HasTurn, IsTurnRefused, TurnWaits}
use Rattle.building.specs.Turns.{WorkerDid, WorkerStopped}
use Rattle.build_events.proofs.Copies.{copies_count}
use Rattle.live_lemmas.proofs.FullSpools.{full_in_build}
use Rattle.building.specs.Keeping.{KeepsLaws}
use Rattle.side_file.specs.Ends.{RingId}
use Rattle.live_lemmas.proofs.Refusals.{state_is, waiting_is, worker_there}
use Rattle.building.proofs.Stakes.{as_many}
use Rattle.building.proofs.Stepping.{stopped_spoils}
use Rattle.live_lemmas.proofs.Takes.{goes_on, going_on, spoiled_state, spoiled_works, spools_are, states_set}
use Rattle.page_workers.proofs.Places.{map_at, no_pair, all_at}
use Rattle.live_lemmas.proofs.AllImages.{all_own}

-- where it sees no copy, it takes none
next_none : (n : ℕ) (kinds : List Kind) (intake : IntakeValue) → intake.end.known ≡ [] → length (next_images n kinds intake) ≡ 0
next_none n kinds intake none = let few = next_known n kinds intake in let no_copy = ap length none in omega (arith, few, no_copy)

digest_none : (n : ℕ) (kinds : List Kind) (intake : IntakeValue) → intake.end.known ≡ [] → digests n kinds intake ≡ intake
digest_none n kinds intake none =
    let taken : take n intake.end.known ≡ [] = ap (take n) none ∙ take-nil n in
    let left : drop n intake.end.known ≡ intake.end.known = ap (drop n) none ∙ drop-nil n ∙ sym none in
    let received = ap (λ (copies : List Copied). intake.end.received ++ copies) taken ∙ append-nil intake.end.received in
    same_worker (digests n kinds intake) intake refl
    (ap₂ (λ (received known : List Copied). record intake.end { received = received; known = known }) received left)
    (let counted = next_none n kinds intake none in omega (arith, counted)) refl

turn_none : (turn : Turn) (kinds : List Kind) (intake : IntakeValue) → intake.end.known ≡ [] → after_turn turn kinds intake ≡ marked turn intake
turn_none turn kinds intake none = ap (marked turn) (digest_none (turn_copies turn intake) kinds intake none)

no_images : (turn : Turn) (kinds : List Kind) (intake : IntakeValue) → intake.end.known ≡ [] → length (turn_images turn kinds intake) ≡ 0
no_images turn kinds intake = next_none (turn_copies turn intake) kinds intake

-- to mark what is sealed takes nothing
marked_end : (turn : Turn) (intake : IntakeValue) → ((marked turn intake).end ≡ intake.end) × ((marked turn intake).build ≡ intake.build)
marked_end Digest intake = (refl, refl)
marked_end Seal intake = (refl, refl)

-- of what it took since its last seal nothing is in no run, where no run was open and it sees no copy
turn_open :
    (turn : Turn) (spec : KeySpecValue) (kinds : List Kind) (intake : IntakeValue) → intake.end.known ≡ [] → intake.taken ≡ length (received_images kinds intake)
    → HoldsOpen spec (unsealed_images kinds intake) [] → HoldsOpen spec (unsealed_images kinds (after_turn turn kinds intake)) []
turn_open Digest spec kinds intake none taken opened =
    subst (λ (i : IntakeValue). HoldsOpen spec (unsealed_images kinds i) []) (sym (turn_none Digest kinds intake none)) opened
turn_open Seal spec kinds intake none taken opened = sealed_open spec (length intake.end.known) kinds intake taken

-- it goes on taking what its ring was sent
turn_taking :
    (turn : Turn) (build : ℕ) (kinds : List Kind) (sent : List Copied) (intake : IntakeValue) → IsTaking build kinds sent intake
    → intake.end.received ++ intake.end.known ≡ sent → IsTaking build kinds sent (after_turn turn kinds intake)
turn_taking Digest build kinds sent intake taking in_order = digested_taking build kinds sent intake taking 1 in_order
turn_taking Seal build kinds sent intake taking in_order =
    sealed_taking build kinds sent (digests (length intake.end.known) kinds intake)
    (digested_taking build kinds sent intake taking (length intake.end.known) in_order)

-- how many copies callers see it take, and what they see of it then and of the work
abbrev turn_count : Turn → BuildState → WorkState → ℕ → ℕ
turn_count Digest b work k = next_copies b work k
turn_count Seal b work k = waiting b work k

abbrev turn_state : Turn → BuildState → WorkState → ℕ → WorkerState
turn_state Digest b work k = record (worker_at work k) { taken = (worker_at work k).taken + next_copies b work k }
turn_state Seal b work k = record { taken = length (put_to b k); sealed = length (put_to b k) }

abbrev turn_work : Turn → BuildState → WorkState → ℕ → WorkState
turn_work turn b work k = record work { workers = set work.workers k (turn_state turn b work k) }

is_turn :
    (turn : Turn) (b : BuildState) (k : ℕ) (s new : CoreState) (images : ℕ) → s.live.build ≡ Some b → images ≡ turn_count turn b s.work k
    → new ≡ record s { work = turn_work turn b s.work k } → HasTurn turn k s images new
is_turn Digest b k s new images is counted left =
    subst (λ (o : Option BuildState). OnBuild o (λ x. (images ≡ next_copies x s.work k) × (new ≡ record s { work = digested x s.work k }))) (sym is) (counted, left)
is_turn Seal b k s new images is counted left =
    subst (λ (o : Option BuildState). OnBuild o (λ x. (images ≡ waiting x s.work k) × (new ≡ record s { work = sealed x s.work k }))) (sym is) (counted, left)

module _
    (live : LiveValue) (building new : BuildingValue) (b : BuildState) (w : WorkValue) (run : IsRunning live building b w) (fine : w.spoiled ≡ None)
    (put : ArePut live.state.heap.schema live.state.heap.log b (all_sent live.pages)) (k count : ℕ) (sees : SeesRing k count live building) where
  abbrev kinds : List Kind
  kinds = live.state.heap.schema

  abbrev it : WorkerValue
  it = sees.it

  abbrev sent : List Copied
  sent = sees.end.sent

  there : slice_get (all_sent live.pages) k ≡ Some sent
  there = map_at (λ (end : PutEnd Copied). end.sent) live.pages k sees.end sees.ring

  its : IsWorkerOf b.number kinds w.specs w.handed sent it
  its = run.at_work.taking fine k sent it there sees.there

  its_sealed : w.handed ≡ true → IsSealed sent it
  its_sealed handed = (run.at_work.drained fine handed).1 k sent it there sees.there

  none_left : w.handed ≡ true → it.intake.end.known ≡ []
  none_left handed =
      append_cancel_left it.intake.end.received it.intake.end.known [] (sees.in_order ∙ sym (its_sealed handed).taken ∙ sym (append-nil it.intake.end.received))

  abbrev before : WorkState
  before = work_state building.workers building.work

  waits : waiting b before k ≡ length it.intake.end.known
  waits = waiting_is live building b w run fine put k sent it there sees.there it.intake.end.known sees.in_order

  -- where the ring has a copy, callers see that one waits
  waits_some : 0 < length it.intake.end.known → Waits k (core_state live building)
  waits_some some =
      subst (λ (o : Option BuildState). OnBuild o (λ x. 0 < waiting x before k)) (sym run.build_is) (omega (arith, waits, some))

  -- it has an image for each copy that it takes
  images_waiting : (turn : Turn) → length (turn_images turn kinds it.intake) ≡ turn_count turn b before k
  images_waiting Digest = next_count b.number kinds sent it.intake its.taking 1 sees.in_order ∙ ap (min 1) (sym waits)
  images_waiting Seal = omega (arith, next_count b.number kinds sent it.intake its.taking (length it.intake.end.known) sees.in_order, waits)

  -- and callers see it so
  state_after : (turn : Turn) → worker_state (after_turn turn kinds it.intake) ≡ turn_state turn b before k
  state_after Digest =
      ap (λ (n : ℕ). record { taken = it.intake.taken + n; sealed = it.intake.sealed }) (images_waiting Digest)
      ∙ sym (ap (λ (s : WorkerState). record s { taken = s.taken + next_copies b before k }) (worker_there live building b w run fine put k it sees.there))
  state_after Seal =
      let copies = copies_count kinds live.state.heap.log (put_to b k) (all_images b.number sent) (put k sent there) in
      let own = ap length (all_own kinds live.state.heap.log b.number (put_to b k) sent (put k sent there)) in
      let count = sent_count b.number kinds sent it.intake its.taking it.intake.end.known sees.in_order in
      ap (λ (n : ℕ). record { taken = n; sealed = n }) (omega (arith, copies, own, count, images_waiting Seal, waits))

  module _ (turn : Turn) where
    module _ (images : ℕ) (done : WorkerDid turn k building images new) where
      did : HasDone turn it images done.after
      did = subst (λ (v : WorkerValue). HasDone turn v images done.after) (same_Some done.it it (sym done.there ∙ sees.there)) done.did

      after_load : w.handed ≡ true → (images ≡ 0) × (done.after ≡ record it { intake = marked turn it.intake })
      after_load handed = did.nothing (its.handed ∙ handed)

      intake_is : done.after.intake ≡ after_turn turn kinds it.intake
      intake_is = elim (cases_Bool w.handed) [
        | inl handed ↦ ap (λ (v : WorkerValue). v.intake) (after_load handed).1 ∙ sym (turn_none turn kinds it.intake (none_left handed))
        | inr scans ↦ (did.took (its.handed ∙ scans)).intake ∙ ap (λ (ks : List Kind). after_turn turn ks it.intake) its.schema
      ]

      images_are : images ≡ length (turn_images turn kinds it.intake)
      images_are = elim (cases_Bool w.handed) [
        | inl handed ↦ (after_load handed).0 ∙ sym (no_images turn kinds it.intake (none_left handed))
        | inr scans ↦ (did.took (its.handed ∙ scans)).counted ∙ ap (λ (ks : List Kind). length (turn_images turn ks it.intake)) its.schema
      ]

      kept : w.handed ≡ true → (done.after.maker ≡ it.maker) × (done.after.intake.end ≡ it.intake.end) × (done.after.intake.build ≡ it.intake.build)
      kept handed =
          let same = (after_load handed).1 in
          let ends = marked_end turn it.intake in (
            ap (λ (v : WorkerValue). v.maker) same,
            ap (λ (v : WorkerValue). v.intake.end) same ∙ ends.0,
            ap (λ (v : WorkerValue). v.intake.build) same ∙ ends.1,
          )

      opened_after :
          w.handed ≡ true → (index : ℕ) (spec : KeySpecValue) → slice_get w.specs index ≡ Some spec
          → HoldsOpen spec (unsealed_images spec.kinds done.after.intake) (get_or done.after.maker.begun index [])
      opened_after handed index spec is =
          let columns = all_at (λ (s : KeySpecValue). s.kinds ≡ kinds) w.specs index spec run.on.columns is in
          let none = no_pair it.maker.begun index (its_sealed handed).closed in
          let was : HoldsOpen spec (unsealed_images kinds it.intake) [] =
          subst (HoldsOpen spec (unsealed_images kinds it.intake)) none
          (subst (λ (ks : List Kind). HoldsOpen spec (unsealed_images ks it.intake) (get_or it.maker.begun index [])) columns (its.opened handed index spec is)) in
          let none_after : get_or done.after.maker.begun index [] ≡ [] = ap (λ (m : MakerValue). get_or m.begun index []) (kept handed).0 ∙ none in
          subst (HoldsOpen spec (unsealed_images spec.kinds done.after.intake)) (sym none_after)
          (subst (λ (intake : IntakeValue). HoldsOpen spec (unsealed_images spec.kinds intake) []) (sym intake_is)
          (subst (λ (ks : List Kind). HoldsOpen spec (unsealed_images ks (after_turn turn kinds it.intake)) []) (sym columns)
          (turn_open turn spec kinds it.intake (none_left handed) its.taking.taken was)))

      own : IsWorkerOf b.number kinds w.specs w.handed sent done.after
      own = record {
        fine = did.sound.1;
        schema = did.same.schema ∙ its.schema;
        specs_are = did.same.specs ∙ its.specs_are;
        handed = did.same.handed ∙ its.handed;
        own = λ e. as_many done.after.spools it.spools did.same.stakes ∙ its.own e;
        none = λ e. ap (λ (v : WorkerValue). v.spools) (after_load e).1 ∙ its.none e;
        opened = opened_after;
        taking = subst (IsTaking b.number kinds sent) (sym intake_is) (turn_taking turn b.number kinds sent it.intake its.taking sees.in_order);
      }

      abbrev changed : BuildingValue
      changed = going_on live building b w run fine k sent it done.after there sees.there own kept

      turn_works : StandsBeside live new
      turn_works = subst (StandsBeside live) (sym done.left) (goes_on live building b w run fine k sent it done.after there sees.there own kept)

      abbrev with_states : List WorkerState → WorkState
      with_states states = record { workers = states; indexes = map index_state w.indexes; spoiled = None }

      work_is : work_state changed.workers changed.work ≡ turn_work turn b before k
      work_is =
          state_is changed w run.work_is fine
          ∙ ap with_states (states_set live building b w run fine k sent it done.after there sees.there own kept)
          ∙ ap (λ (s : WorkerState). with_states (set (map (λ (v : WorkerValue). worker_state v.intake) building.workers) k s)) (ap worker_state intake_is ∙ state_after turn)
          ∙ sym (ap (λ (s : WorkState). record s { workers = set s.workers k (turn_state turn b before k) }) (state_is building w run.work_is fine))

      has_turn : HasTurn turn k (core_state live building) images (core_state live new)
      has_turn =
          is_turn turn b k (core_state live building) (core_state live new) images run.build_is (images_are ∙ images_waiting turn)
          (ap (core_state live) done.left
          ∙ ap (λ (s : WorkState). record { live = live.state; work = s; spools = spools_state changed.given (all_spools changed.workers changed.spools) }) work_is
          ∙ ap (λ (s : SpoolsState). record { live = live.state; work = turn_work turn b before k; spools = s })
          (spools_are live building b w run fine k sent it done.after there sees.there own kept did.same.stakes))

    -- whatever was answered, callers see it
    pub turn_after :
        (answer : Result ℕ Fault) → IfOk answer (λ images. WorkerDid turn k building images new)
        → IfOk answer (λ images. HasTurn turn k (core_state live building) images (core_state live new))
    turn_after (Ok images) done = has_turn images done
    turn_after (Err fault) done = tt

    module _
        {S : Type 0} (is_full : S → Pair → Type 0) (runs : S → List (List Pair)) (open_run : S → List Pair) (stake : S → Option Stake)
        (rings : length live.pages ≡ 16) (page_rings : List RingId) (laws : All (KeepsLaws page_rings) building.workers) where
      waits_for :
          (t : Turn) (fault : Fault) (after : WorkerValue) → IsStopped is_full runs open_run stake t it fault after → TurnWaits t k (core_state live building) fault
      waits_for Digest fault after stopped =
          waits_some (behind_known 0 it.maker.schema it.intake (stopped.took its.fine).own)
      waits_for Seal fault after stopped = λ memory. waits_some (seal_saw it.maker.schema it.intake after.intake fault (stopped.took its.fine) memory)

      stopped_it : (fault : Fault) (s : WorkerStopped is_full runs open_run stake turn k building fault new) → IsStopped is_full runs open_run stake turn it fault s.after
      stopped_it fault s =
          subst (λ (v : WorkerValue). IsStopped is_full runs open_run stake turn v fault s.after) (same_Some s.it it (sym s.there ∙ sees.there)) s.stopped

      abbrev Stopped : Fault → Type 0
      Stopped fault = WorkerStopped is_full runs open_run stake turn k building fault new

      -- all goes on
      pub works_after_turn : (answer : Result ℕ Fault) → IfOk answer (λ images. WorkerDid turn k building images new) → IfErr answer Stopped → StandsBeside live new
      works_after_turn (Ok images) done stopped = turn_works images done
      works_after_turn (Err fault) done stopped =
          spoiled_works live fault building new b w run (stopped_spoils is_full runs open_run stake turn k building new fault w run.work_is fine stopped)

      -- and the build is spoiled
      pub refused_after :
          (answer : Result ℕ Fault) → IfErr answer Stopped
          → IfErr answer (λ fault. IsTurnRefused is_full runs open_run stake turn k (core_state live building) fault (core_state live new))
      refused_after (Ok images) stopped = tt
      refused_after (Err fault) stopped =
          let was = stopped_it fault stopped in
          record {
            want = was.short;
            waits = waits_for turn fault stopped.after was;
            full = full_in_build is_full runs open_run stake live building b w run fine rings put k count sees turn fault stopped.after was page_rings
                (all_at (KeepsLaws page_rings) building.workers k it laws sees.there);
            spoiled = spoiled_state live fault building new b w run
                (stopped_spoils is_full runs open_run stake turn k building new fault w run.work_is fine stopped);
          }
