-- The workers of a build hand their spools over: these hold the pairs of what the workers received.
use Rattle.std.proofs.Common.{◌≡◌, ℕ, ◌*◌, ◌<◌, Bool, true, false, List, [], ◌++◌, All, length, map, get_or, Option, Some, None, refl, sym, ap, ◌∙◌, subst, arith}
use Rattle.std.specs.List.{slice_get}
use Rattle.std.proofs.lemmas.Bool.{false≢true}
use Rattle.std.proofs.lemmas.List.{length-map}
use Rattle.std.proofs.lemmas.Option.{same_Some, get_or_from_slice_get}
use Rattle.keybytes.specs.Keys.{KeySpecValue}
use Rattle.keybytes.specs.declared.pair.Pair.{Pair}
use Rattle.side_file.specs.Ends.{RingId}
use Rattle.side_file.specs.declared.entry.Entry.{Entry}
use Rattle.run_spool.specs.Spools.{AreSorted}
use Rattle.run_maker.specs.Making.{spec_at}
use Rattle.page_workers.specs.Holding.{HoldsOpen, HoldsPairs}
use Rattle.page_workers.specs.SpoolValue.{SpoolValue, runs_of}
use Rattle.side_file.specs.Ends.{TakeEnd}
use Rattle.page_workers.specs.Taking.{received_images, unsealed_images}
use Rattle.page_workers.specs.WorkerValue.{IsHolding, WorkerValue}
use Rattle.index_load.specs.Columns.{column}
use Rattle.index_load.proofs.SpoolPlaces.{column_is, column_there, flat_at, flat_many}
use Rattle.building.specs.BuildingValue.{BuildingValue, IndexValue, IsUnloaded, WorkValue}
use Rattle.building.specs.Holding.{HaveColumns, all_spools, workers_spools}
use Rattle.building.specs.Keeping.{AreWorkers, HasHanded, HaveEachOnce, IsClosed, IsWorkerAt, KeepsLaws, KeepsWork}
use Rattle.building.specs.Working.{CanHandOver, handed_over}
use Rattle.building.proofs.Kept.{any_workers}
use Rattle.building.proofs.OneWorker.{its_work, still_scans}
use Rattle.page_workers.proofs.Places.{all_at, all_from, all_mapped, at_map, map_at, mapped_of, no_pair, there_is}

-- a worker that goes on, and has its spools for these indexes
pub record HasItsSpools (specs : List KeySpecValue) (worker : WorkerValue) : Type 0 where
  pub fine : worker.fault ≡ None
  pub specs_are : worker.maker.specs ≡ specs
  pub spools_are : worker.handed ≡ false

module _
    (specs : List KeySpecValue) (workers : List WorkerValue) (own : All (HasItsSpools specs) workers) (closed : All IsClosed workers)
    (holding : (k : ℕ) (worker : WorkerValue) → slice_get workers k ≡ Some worker → IsHolding worker.intake worker.maker worker.spools) where
  abbrev n : ℕ
  n = length specs

  its_own : (k : ℕ) (worker : WorkerValue) → slice_get workers k ≡ Some worker → HasItsSpools specs worker
  its_own k worker at = all_at (HasItsSpools specs) workers k worker own at

  holds : (k : ℕ) (worker : WorkerValue) → slice_get workers k ≡ Some worker → IsHolding worker.intake worker.maker worker.spools
  holds k worker at = holding k worker at

  own_many : (k : ℕ) (worker : WorkerValue) → slice_get workers k ≡ Some worker → length worker.spools ≡ n
  own_many k worker at = (holds k worker at).many ∙ ap length (its_own k worker at).specs_are

  lent_many : length (workers_spools workers) ≡ length workers * n
  lent_many = flat_many (λ (v : WorkerValue). v.spools) n workers own_many

  -- the spool of an index at a worker's place is the worker's
  module _ (index k : ℕ) (worker : WorkerValue) (spool : SpoolValue) (less : index < n) (at : slice_get workers k ≡ Some worker)
      (here : slice_get (column index n (workers_spools workers)) k ≡ Some spool) where
    mine : (s : SpoolValue) × (slice_get worker.spools index ≡ Some s)
    mine = there_is worker.spools index (let many = own_many k worker at in omega (arith, less, many))

    same : mine.0 ≡ spool
    same =
        same_Some mine.0 spool (sym (flat_at (λ (v : WorkerValue). v.spools) n workers own_many k worker at index mine.0 mine.1)
        ∙ sym (column_is n (length workers) index (workers_spools workers) less lent_many k) ∙ here)

    runs_there : get_or (runs_of worker.spools) index [] ≡ spool.runs
    runs_there =
        get_or_from_slice_get (runs_of worker.spools) index mine.0.runs [] (map_at (λ (s : SpoolValue). s.runs) worker.spools index mine.0 mine.1)
        ∙ ap (λ (s : SpoolValue). s.runs) same

    in_order : AreSorted spool.runs
    in_order =
        subst (λ (s : SpoolValue). AreSorted s.runs) same
        (all_at (λ (s : SpoolValue). AreSorted s.runs) worker.spools index mine.0
        (all_mapped AreSorted (λ (s : SpoolValue). s.runs) worker.spools (holds k worker at).sorted) mine.1)

    its_pairs : HoldsPairs (spec_at specs index) (received_images worker.maker.schema worker.intake) spool.runs []
    its_pairs =
        let is = its_own k worker at in
        let there : index < length worker.maker.specs = omega (arith, less, ap length is.specs_are) in
        let held = (holds k worker at).holds index there in
        let none : get_or worker.maker.begun index [] ≡ [] = no_pair worker.maker.begun index (all_at IsClosed workers k worker closed at) in
        subst (λ (ss : List KeySpecValue). HoldsPairs (spec_at ss index) (received_images worker.maker.schema worker.intake) spool.runs []) is.specs_are
        (subst (λ (rs : List (List Pair)). HoldsPairs (spec_at worker.maker.specs index) (received_images worker.maker.schema worker.intake) rs []) runs_there
        (subst (HoldsPairs (spec_at worker.maker.specs index) (received_images worker.maker.schema worker.intake) (get_or (runs_of worker.spools) index [])) none held))

  pub lent_columns : (is_open : ℕ → Type 0) → HaveColumns is_open specs (map handed_over workers) (workers_spools workers)
  lent_columns is_open = record {
    many = lent_many ∙ ap (λ (m : ℕ). m * n) (sym (length-map workers handed_over));
    sorted = λ index less opened. mapped_of AreSorted (λ (s : SpoolValue). s.runs) (column index n (workers_spools workers)) (λ k spool here.
        let k_less = column_there n (length workers) index (workers_spools workers) less lent_many k spool here in
        let worker = there_is workers k k_less in
        in_order index k worker.0 spool less worker.1 here);
    pairs = λ index k worker spool less opened at here.
        let it = at_map handed_over workers k worker at in
        subst (λ (v : WorkerValue). HoldsPairs (spec_at specs index) (received_images v.maker.schema v.intake) spool.runs []) it.2
        (its_pairs index k it.0 spool less it.1 here);
  }

  pub all_handed : (rings : List RingId) → All (KeepsLaws rings) workers → All (HasHanded specs) (map handed_over workers)
  all_handed rings laws = mapped_of (HasHanded specs) handed_over workers (λ k worker at.
      let is = its_own k worker at in
      let keeps = all_at (KeepsLaws rings) workers k worker laws at in
      record {
        closed = all_at IsClosed workers k worker closed at;
        none = refl;
        columns = keeps.columns;
        counting = keeps.counting is.fine;
        opened = subst (λ (ss : List KeySpecValue). (i : ℕ) → i < length ss
            → HoldsOpen (spec_at ss i) (unsealed_images worker.maker.schema worker.intake) (get_or worker.maker.begun i [])) is.specs_are (holds k worker at).opened;
      })

-- workers at their places go on there once they handed their spools over
placed_handed :
    (build : ℕ) (specs : List KeySpecValue) (workers : List WorkerValue) → AreWorkers build specs false workers
    → AreWorkers build specs true (map handed_over workers)
placed_handed build specs workers placed k worker at =
    let it = at_map handed_over workers k worker at in
    let is = placed k it.0 it.1 in
    subst (IsWorkerAt build specs true k) it.2 (record {
      number = is.number;
      fine = is.fine;
      of_build = is.of_build;
      specs_are = is.specs_are;
      spools_are = refl;
    })

-- and have them before
own_spools : (build : ℕ) (specs : List KeySpecValue) (workers : List WorkerValue) → AreWorkers build specs false workers → All (HasItsSpools specs) workers
own_spools build specs workers placed = all_from (HasItsSpools specs) workers (λ k worker at.
    let is = placed k worker at in
    record { fine = is.fine; specs_are = is.specs_are; spools_are = is.spools_are })

-- what they hold, while they have them
pub own_held :
    (specs : List KeySpecValue) (rings : List RingId) (workers : List WorkerValue) → All (HasItsSpools specs) workers → All (KeepsLaws rings) workers
    → (k : ℕ) (worker : WorkerValue) → slice_get workers k ≡ Some worker → IsHolding worker.intake worker.maker worker.spools
own_held specs rings workers own laws k worker at =
    let is = all_at (HasItsSpools specs) workers k worker own at in
    (all_at (KeepsLaws rings) workers k worker laws at).holding is.fine is.spools_are

-- the work goes on, and its indexes are being loaded
pub handed_kept :
    (workers : List WorkerValue) (sides : List (TakeEnd Entry)) (spools : List SpoolValue) (work : WorkValue) (rings : List RingId) → work.handed ≡ false
    → All IsClosed workers → HaveEachOnce work (workers_spools workers) → All (KeepsLaws rings) workers
    → KeepsWork workers sides spools (Some work) → KeepsWork (map handed_over workers) sides (all_spools workers spools) (Some (record work { handed = true }))
handed_kept workers sides spools work rings scans closed once laws is = λ fine.
    let old = is fine in
    let placed = subst (λ (handed : Bool). AreWorkers work.build work.specs handed workers) scans old.placed in
    let own = own_spools work.build work.specs workers placed in
    let holding = own_held work.specs rings workers own laws in
    let all : all_spools workers spools ≡ workers_spools workers = ap (λ (home : List SpoolValue). home ++ workers_spools workers) (old.lent scans) in
    record {
      many = old.many;
      placed = placed_handed work.build work.specs workers placed;
      indexes = λ k spec end index here there at.
          any_workers work.build spec workers (map handed_over workers) end index
          (all_at (λ (i : IndexValue). i.built ≡ None) work.indexes k index (old.unloaded scans) at) (old.indexes k spec end index here there at);
      lent = λ e. absurd (false≢true (sym e));
      unloaded = λ e. absurd (false≢true (sym e));
      handed = λ e. all_handed work.specs workers own closed holding rings laws;
      columns = λ e. rw all (lent_columns work.specs workers own closed holding (λ index. IsUnloaded index (record work { handed = true })));
      once = λ e. rw all once;
    }

-- the same of the work that runs, as it was seen
pub handed_over_kept :
    (old seen : BuildingValue) (work held : WorkValue) → seen ≡ old → seen.work ≡ Some work → held ≡ work → CanHandOver old → {rings : List RingId}
    → All (KeepsLaws rings) seen.workers → KeepsWork seen.workers seen.sides seen.spools seen.work
    → (workers : List WorkerValue) (spools : List SpoolValue) → workers ≡ map handed_over seen.workers → spools ≡ all_spools seen.workers seen.spools
    → KeepsWork workers seen.sides spools (Some (record held { handed = true }))
handed_over_kept old seen work held same runs is can {rings} laws keeps workers spools workers_are spools_are =
    let it : can.work ≡ work = its_work old seen work can.work same runs can.runs can.fine can.scans keeps in
    let scans : work.handed ≡ false = still_scans old seen work can.work same runs can.runs can.fine can.scans keeps in
    let closed : All IsClosed seen.workers = subst (λ (b : BuildingValue). All IsClosed b.workers) (sym same) can.closed in
    let once : HaveEachOnce work (workers_spools seen.workers) =
    subst (λ (w : WorkValue). HaveEachOnce w (workers_spools seen.workers)) it
    (subst (λ (b : BuildingValue). HaveEachOnce can.work (workers_spools b.workers)) (sym same) can.once) in
    rw (workers_are, spools_are, is)
    (handed_kept seen.workers seen.sides seen.spools work rings scans closed once laws
    (subst (λ (o : Option WorkValue). KeepsWork seen.workers seen.sides seen.spools o) runs keeps))
