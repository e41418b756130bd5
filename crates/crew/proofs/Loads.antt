-- What loads and batches leave of a build that goes on.
use Rattle.std.proofs.Common.{◌≡◌, ℕ, zero, suc, true, false, List, [], ◌∷◌, ◌++◌, All, length, map, Option, Some, None, refl, sym, ap, ap₂, subst, ◌∙◌, arith}
use Rattle.std.specs.Prelude.{IfSome, IsSome, is_some}
use Rattle.std.specs.List.{slice_get}
use Rattle.std.proofs.lemmas.List.{length-map, map-append}
use Rattle.std.proofs.lemmas.Option.{same_Some}
use Rattle.keybytes.specs.Keys.{KeySpecValue}
use Rattle.keybytes.specs.declared.fault.Fault.{Fault}
use Rattle.keybytes.specs.declared.pair.Pair.{Pair}
use Rattle.page_workers.specs.SpoolValue.{SpoolValue, ended_spool, stakes_of}
use Rattle.page_workers.specs.WorkerValue.{WorkerValue}
use Rattle.page_workers.proofs.Places.{all_at, all_from, at_map, below}
use Rattle.building.proofs.OneWorker.{the_work}
use Rattle.building.specs.BuildingValue.{BuildingValue, IndexValue, WorkValue}
use Rattle.building.specs.Holding.{workers_spools}
use Rattle.building.specs.IndexLoads.{CanLoadAll, HasLoadedAll, LoadsStopped, loaded_from}
use Rattle.building.specs.Keeping.{KeepsWork}
use Rattle.building.specs.Batches.{BatchIsIn, BatchesStopped, CanApplyBatches, HasAppliedBatches, IndexBatch, IsApplied, entries_of}
use Rattle.side_file.specs.declared.entry.Entry.{Entry}
use Rattle.live_lemmas.specs.Builds.{LiveValue}
use Rattle.live_lemmas.specs.Switching.{HandsOver}
use Rattle.crew.specs.Places.{GoesOnWith, stakes_beside}

-- the same workers, and spools of the same stakes
beside_same : (building new : BuildingValue) → new.workers ≡ building.workers → stakes_of new.spools ≡ stakes_of building.spools → stakes_beside new ≡ stakes_beside building
beside_same building new workers spools =
    let stake : SpoolValue → _ = λ s. s.stake in
    map-append stake new.spools (workers_spools new.workers)
    ∙ ap₂ (λ (home : List _) (all : List WorkerValue). home ++ stakes_of (workers_spools all)) spools workers
    ∙ sym (map-append stake building.spools (workers_spools building.workers))

-- The loads.

-- each of the indexes has its pairs in order
built_from :
    (work : WorkValue) (k : ℕ) (pairs : List (List Pair)) (i : ℕ) (index : IndexValue) → slice_get (loaded_from work k pairs) i ≡ Some index → is_some index.built ≡ true
built_from work k [] i index at = absurd (cc)
built_from work k (own ∷ rest) zero index at = ap (λ (it : IndexValue). is_some it.built) (sym (same_Some _ index at))
built_from work k (own ∷ rest) (suc i) index at = built_from work (suc k) rest i index at

as_many_from : (work : WorkValue) (k : ℕ) (pairs : List (List Pair)) → length (loaded_from work k pairs) ≡ length pairs
as_many_from work k [] = refl
as_many_from work k (own ∷ rest) = ap suc (as_many_from work (suc k) rest)

ended_stakes : (spools : List SpoolValue) → stakes_of (map ended_spool spools) ≡ stakes_of spools
ended_stakes [] = refl
ended_stakes (spool ∷ spools) = ap (λ l. spool.stake ∷ l) (ended_stakes spools)

module _ (old new : BuildingValue) (does : HasLoadedAll old new) where
  pub all_stakes : stakes_beside new ≡ stakes_beside old
  all_stakes =
      beside_same old new (ap (λ (b : BuildingValue). b.workers) does.left)
      (ap (λ (b : BuildingValue). stakes_of b.spools) does.left ∙ ended_stakes old.spools)

  pub all_goes_on : (specs : List KeySpecValue) → GoesOnWith 0 specs old → GoesOnWith (length specs) specs new
  all_goes_on specs on =
      let its : does.work ≡ on.work = the_work old.work does.work on.work does.runs on.runs in
      let same : does.work.specs ≡ specs = ap (λ (w : WorkValue). w.specs) its ∙ on.specs_are in
      record {
        work = record does.work { indexes = loaded_from does.work 0 does.pairs };
        runs = ap (λ (b : BuildingValue). b.work) does.left;
        specs_are = same;
        few = on.few;
        many = as_many_from does.work 0 does.pairs ∙ does.many ∙ ap length same;
        fine = ap (λ (w : WorkValue). w.spoiled) its ∙ on.fine;
        loaded = λ k index less at. built_from does.work 0 does.pairs k index at;
      }

pub stopped_stakes : (old : BuildingValue) (fault : Fault) (new : BuildingValue) → LoadsStopped old fault new → stakes_beside new ≡ stakes_beside old
stopped_stakes old fault new stopped =
    beside_same old new (ap (λ (b : BuildingValue). b.workers) stopped.left) (ap (λ (b : BuildingValue). stakes_of b.spools) stopped.left ∙ stopped.stakes)

-- the indexes of a build that goes on can be loaded once its workers handed their spools over
pub all_load :
    (live new_live : LiveValue) (building new : BuildingValue) → KeepsWork building.workers building.sides building.spools building.work
    → IfSome building.work (λ w. w.handed ≡ false → HandsOver live building new_live new)
    → (specs : List KeySpecValue) → GoesOnWith 0 specs building → IfSome building.work (λ w. w.handed ≡ false) → CanLoadAll new
all_load live new_live building new keeps over specs on scans =
    let P : Option WorkValue → Type 0 = λ o. KeepsWork building.workers building.sides building.spools o in
    let kept = subst P on.runs keeps on.fine in
    let lent : on.work.handed ≡ false = subst (λ (o : Option WorkValue). IfSome o (λ w. w.handed ≡ false)) on.runs scans in
    let hands = subst (λ (o : Option WorkValue). IfSome o (λ w. w.handed ≡ false → HandsOver live building new_live new)) on.runs over lent in
    let its : hands.handed.work ≡ on.work =
    the_work building.work hands.handed.work on.work (sym (ap (λ (b : BuildingValue). b.work) hands.looked.rest) ∙ hands.handed.runs) on.runs in
    record {
      work = record hands.handed.work { handed = true };
      runs = ap (λ (b : BuildingValue). b.work) hands.handed.left;
      fine = ap (λ (w : WorkValue). w.spoiled) its ∙ on.fine;
      loads = refl;
      none = subst (λ (w : WorkValue). All (λ index. index.built ≡ None) w.indexes) (sym its) (kept.unloaded lent);
    }

-- Batches.

-- a build that goes on with all its indexes in order takes batches
pub can_apply_all : (specs : List KeySpecValue) (building : BuildingValue) → GoesOnWith (length specs) specs building → CanApplyBatches building
can_apply_all specs building on = record {
  work = on.work;
  runs = on.runs;
  fine = on.fine;
  few = omega (arith, on.many, on.few);
  loaded = all_from (λ (index : IndexValue). IsSome index.built) on.work.indexes
      (λ k index at. let here = below on.work.indexes k index at in on.loaded k index (omega (arith, here, on.many)) at);
}

-- and has them still
is_in_order : (entries : List Entry) (old : IndexValue) (count : ℕ) (new : IndexValue) → BatchIsIn entries old count new → is_some new.built ≡ true
is_in_order entries old count new batch = ap (λ (i : IndexValue). is_some i.built) batch.left

module _ (old : BuildingValue) (count : ℕ) (new : BuildingValue) (does : HasAppliedBatches old count new) where
  pub batches_stakes : stakes_beside new ≡ stakes_beside old
  batches_stakes = ap stakes_beside does.left

  pub batches_go_on : (first : ℕ) (specs : List KeySpecValue) → GoesOnWith first specs old → GoesOnWith first specs new
  batches_go_on first specs on =
      let its : does.work ≡ on.work = the_work old.work does.work on.work does.runs on.runs in
      let batches : List IndexBatch = does.applied.batches in
      let many_old = sym (length-map batches (λ (b : IndexBatch). b.index)) ∙ ap length does.applied.indexes_are in
      let many_new = sym (length-map batches (λ (b : IndexBatch). b.new)) ∙ ap length does.applied.new_are in
      record {
        work = record does.work { indexes = does.indexes };
        runs = ap (λ (b : BuildingValue). b.work) does.left;
        specs_are = ap (λ (w : WorkValue). w.specs) its ∙ on.specs_are;
        few = on.few;
        many = sym many_new ∙ many_old ∙ ap (λ (w : WorkValue). length w.indexes) its ∙ on.many;
        fine = ap (λ (w : WorkValue). w.spoiled) its ∙ on.fine;
        loaded = λ k index less at.
            let there = ap (λ (is : List IndexValue). slice_get is k) does.applied.new_are ∙ at in
            let it = at_map (λ (b : IndexBatch). b.new) batches k index there in
            let batch = all_at IsApplied batches k it.0 does.applied.each it.1 in
            subst (λ (i : IndexValue). is_some i.built ≡ true) it.2 (is_in_order (entries_of it.0) it.0.index (length (entries_of it.0)) it.0.new batch);
      }

pub batches_stopped_stakes : (old : BuildingValue) (fault : Fault) (new : BuildingValue) → BatchesStopped old fault new → stakes_beside new ≡ stakes_beside old
batches_stopped_stakes old fault new stopped = ap stakes_beside stopped.left
