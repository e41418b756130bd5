-- What a step of a worker of the build that runs leaves beside a table.
use Rattle.std.proofs.Common.{◌≡◌, ℕ, ◌+◌, ◌++◌, List, length, map, set, Option, Some, None, sym, ap, ◌∙◌, length-set, length-append}
use Rattle.std.specs.Prelude.{Result, Ok, Err, IfErr, IfOk, OnOk}
use Rattle.std.specs.List.{slice_get}
use Rattle.std.proofs.lemmas.List.{length-map, map-append, map-set}
use Rattle.keybytes.specs.Faults.{first_cause}
use Rattle.keybytes.specs.declared.fault.Fault.{Fault}
use Rattle.keybytes.specs.declared.pair.Pair.{Pair}
use Rattle.side_file.specs.Ends.{RingId}
use Rattle.side_file.specs.declared.entry.Entry.{Entry}
use Rattle.spool_ledger.specs.Accounts.{Stake}
use Rattle.page_workers.specs.declared.turn.Turn.{Turn}
use Rattle.page_workers.specs.IntakeValue.{IntakeValue}
use Rattle.page_workers.specs.SpoolValue.{SpoolValue, stakes_of}
use Rattle.side_file.specs.Ends.{TakeEnd}
use Rattle.page_workers.specs.Turns.{HasDone, HasLooked, IsStopped}
use Rattle.page_workers.specs.WorkerValue.{SameWorker, WorkerValue}
use Rattle.building.specs.BuildingValue.{BuildingValue, WorkValue, intakes}
use Rattle.building.specs.Holding.{all_spools}
use Rattle.building.specs.Rings.{AreTakeEnds, take_rings}
use Rattle.building.specs.Turns.{WorkerDid, WorkerLooked, WorkerStopped, spoiled_for}
use Rattle.building.proofs.Spoiled.{IsSpoiled}
use Rattle.building.proofs.OneWorker.{the_work}
use Rattle.page_workers.proofs.Places.{mapped, set_same}
use Rattle.building.proofs.Stakes.{all_stakes, as_many}

-- the rings of all, where one worker has the ring that it had
module _ (workers : List WorkerValue) (k : ℕ) (it after : WorkerValue) (at : slice_get workers k ≡ Some it) (ring : after.intake.end.ring ≡ it.intake.end.ring) where
  own_rings : map (λ (w : WorkerValue). w.intake.end.ring) (set workers k after) ≡ map (λ (w : WorkerValue). w.intake.end.ring) workers
  own_rings =
      let of : WorkerValue → RingId = λ w. w.intake.end.ring in
      map-set of workers k after ∙ ap (λ (r : RingId). set (map of workers) k r) ring ∙ sym (map-set of workers k it) ∙ ap (map of) (set_same workers k it at)

  rings_stay : (idle : List IntakeValue) → take_rings (intakes (set workers k after) idle) ≡ take_rings (intakes workers idle)
  rings_stay idle =
      let of : IntakeValue → RingId = λ i. i.end.ring in
      let own : WorkerValue → IntakeValue = λ w. w.intake in
      map-append of (map own (set workers k after)) idle
      ∙ ap (λ (rs : List RingId). rs ++ map of idle) (mapped own of (set workers k after) ∙ own_rings ∙ sym (mapped own of workers))
      ∙ sym (map-append of (map own workers) idle)

  pub ends_stay :
      (page_rings entry_rings : List RingId) (idle : List IntakeValue) (sides : List (TakeEnd Entry)) → AreTakeEnds page_rings entry_rings (intakes workers idle) sides
      → AreTakeEnds page_rings entry_rings (intakes (set workers k after) idle) sides
  ends_stay page_rings entry_rings idle sides are = record {
    intakes_are = rings_stay idle ∙ are.intakes_are;
    sides_are = are.sides_are;
    sixteen =
        let own : WorkerValue → IntakeValue = λ w. w.intake in
        length-append (map own (set workers k after)) idle
        ∙ ap (λ (n : ℕ). n + length idle) (length-map (set workers k after) own ∙ length-set workers k after ∙ sym (length-map workers own))
        ∙ sym (length-append (map own workers) idle) ∙ are.sixteen;
    eight = are.eight;
  }

-- as many spools, where they have the stakes that they had
pub as_many_after :
    (workers : List WorkerValue) (spools : List SpoolValue) (k : ℕ) (it after : WorkerValue) → slice_get workers k ≡ Some it → stakes_of after.spools ≡ stakes_of it.spools
    → length (all_spools (set workers k after) spools) ≡ length (all_spools workers spools)
as_many_after workers spools k it after at same =
    as_many (all_spools (set workers k after) spools) (all_spools workers spools) (all_stakes workers spools k it after at same)

-- a worker of the build that runs looked into its ring, as it was seen
pub looked_step :
    (old seen : BuildingValue) → seen ≡ old → (k : ℕ) (it after : WorkerValue) (count : ℕ) → slice_get seen.workers k ≡ Some it → HasLooked it count after
    → WorkerLooked k old count (record seen { workers = set seen.workers k after })
looked_step old seen same k it after count at looked = record {
  it = it;
  there = ap (λ (b : BuildingValue). slice_get b.workers k) (sym same) ∙ at;
  after = after;
  looked = looked;
  left = ap (λ (b : BuildingValue). record b { workers = set b.workers k after }) same;
}

-- the worker of the build that runs, as it was seen
module _
    (turn : Turn) (old seen : BuildingValue) (work held : WorkValue) (same : seen ≡ old) (runs : seen.work ≡ Some work) (is : held ≡ work)
    (k : ℕ) (it after : WorkerValue) (at : slice_get seen.workers k ≡ Some it) where
  -- what is left with that work
  abbrev stepped : WorkValue → BuildingValue
  stepped w = record seen { workers = set seen.workers k after; work = Some w }

  there : slice_get old.workers k ≡ Some it
  there = ap (λ (b : BuildingValue). slice_get b.workers k) (sym same) ∙ at

  -- it had its turn
  pub done_step :
      (answer : Result ℕ Fault) (new : WorkValue) → OnOk answer (new ≡ held) → IfOk answer (λ images. HasDone turn it images after)
      → IfOk answer (λ images. WorkerDid turn k old images (stepped new))
  done_step (Ok images) new kept done = record {
    it = it;
    there = there;
    after = after;
    did = done;
    left = ap (λ (o : Option WorkValue). record seen { workers = set seen.workers k after; work = o }) (ap Some (kept ∙ is) ∙ sym runs)
        ∙ ap (λ (b : BuildingValue). record b { workers = set b.workers k after }) same;
  }
  done_step (Err fault) new kept done = tt

  -- or was refused
  pub stopped_step :
      {S : Type 0} (is_full : S → Pair → Type 0) (runs_of : S → List (List Pair)) (open_run : S → List Pair) (stake : S → Option Stake)
      (answer : Result ℕ Fault) (new : WorkValue) → IfErr answer (λ fault. new ≡ spoiled_for fault held)
      → IfErr answer (λ fault. IsStopped is_full runs_of open_run stake turn it fault after)
      → IfErr answer (λ fault. WorkerStopped is_full runs_of open_run stake turn k old fault (stepped new))
  stopped_step is_full runs_of open_run stake (Ok images) new spoiled stopped = tt
  stopped_step is_full runs_of open_run stake (Err fault) new spoiled stopped = record {
    it = it;
    there = there;
    after = after;
    stopped = stopped;
    work = work;
    work_is = ap (λ (b : BuildingValue). b.work) (sym same) ∙ runs;
    left = ap stepped (spoiled ∙ ap (spoiled_for fault) is)
        ∙ ap (λ (b : BuildingValue). record b { workers = set b.workers k after; work = Some (spoiled_for fault work) }) same;
  }

-- a worker is the same, whatever it answered
pub same_after :
    {S : Type 0} (is_full : S → Pair → Type 0) (runs : S → List (List Pair)) (open_run : S → List Pair) (stake : S → Option Stake)
    (turn : Turn) (it after : WorkerValue) (answer : Result ℕ Fault) → IfOk answer (λ images. HasDone turn it images after)
    → IfErr answer (λ fault. IsStopped is_full runs open_run stake turn it fault after) → SameWorker it after
same_after is_full runs open_run stake turn it after (Ok images) done stopped = done.same
same_after is_full runs open_run stake turn it after (Err fault) done stopped = stopped.same

-- so the build is spoiled by the first turn that is refused
pub stopped_spoils :
    {S : Type 0} (is_full : S → Pair → Type 0) (runs : S → List (List Pair)) (open_run : S → List Pair) (stake : S → Option Stake)
    (turn : Turn) (k : ℕ) (old new : BuildingValue) (fault : Fault) (work : WorkValue) → old.work ≡ Some work → work.spoiled ≡ None
    → WorkerStopped is_full runs open_run stake turn k old fault new → IsSpoiled fault old new
stopped_spoils is_full runs open_run stake turn k old new fault work is fine s =
    let none : s.work.spoiled ≡ None = ap (λ (w : WorkValue). w.spoiled) (the_work old.work s.work work s.work_is is) ∙ fine in
    record {
      work = s.work;
      runs = s.work_is;
      workers = set old.workers k s.after;
      many = length-set old.workers k s.after;
      spools = old.spools;
      stakes = all_stakes old.workers old.spools k s.it s.after s.there s.stopped.same.stakes;
      left = s.left ∙ ap (λ (o : Option Fault). record old {
        workers = set old.workers k s.after;
        work = Some (record s.work { spoiled = first_cause o (Some fault) });
      }) none;
    }
