-- Batches that are applied to all indexes of a build.
use Rattle.std.proofs.Common.{◌≡◌, ℕ, ◌+◌, ◌<◌, List, ◌++◌, length, map, Some, None, refl, sym, ap, ◌∙◌, subst, arith, true, is_some}
use Rattle.std.specs.List.{slice_get}
use Rattle.std.proofs.lemmas.List.{length-map}
use Rattle.std.proofs.lemmas.Option.{same_Some}
use Rattle.keybytes.specs.declared.fault.Fault.{Fault}
use Rattle.keybytes.specs.Keys.{KeySpecValue}
use Rattle.side_file.specs.Ends.{RingId, TakeEnd}
use Rattle.side_file.specs.declared.entry.Entry.{Entry}
use Rattle.heap_log.proofs.Records.{slice_get-append_left}
use Rattle.table_scan.specs.SideFiles.{taken_rings}
use Rattle.page_workers.specs.IntakeValue.{IntakeValue}
use Rattle.page_workers.specs.SpoolValue.{SpoolValue}
use Rattle.page_workers.specs.WorkerValue.{WorkerValue}
use Rattle.page_workers.proofs.Places.{all_at, all_from, as_long, at_map, below, map_at}
use Rattle.building.specs.Batches.{AreApplied, BatchesStopped, HasAppliedBatches, IndexBatch, IsApplied, end_after, entries_of}
use Rattle.building.specs.BuildingValue.{BuildingValue, IndexValue, IsUnloaded, WorkValue}
use Rattle.building.specs.Keeping.{IsIndexOf, IsKept, KeepsWork}
use Rattle.building.specs.Rings.{AreTakeEnds}
use Rattle.building.proofs.AppliedKept.{applied_index}
use Rattle.building.proofs.Unloaded.{open_fewer}

-- the ends that take are those of a table as long as their rings stay
pub take_ends_same :
    (page_rings entry_rings : List RingId) (intakes : List IntakeValue) (ends new : List (TakeEnd Entry)) → AreTakeEnds page_rings entry_rings intakes ends
    → taken_rings new ≡ taken_rings ends → AreTakeEnds page_rings entry_rings intakes new
take_ends_same page_rings entry_rings intakes ends new are same = record {
  intakes_are = are.intakes_are;
  sides_are = same ∙ are.sides_are;
  sixteen = are.sixteen;
  eight = as_long (λ (e : TakeEnd Entry). e.ring) (λ (e : TakeEnd Entry). e.ring) new ends same ∙ are.eight;
}

-- ---- one index of many

-- the index of a place had this batch
pub record HadBatch (indexes : List IndexValue) (ends : List (TakeEnd Entry)) (new : List IndexValue) (new_ends : List (TakeEnd Entry)) (k : ℕ) (batch : IndexBatch) : Type 0 where
  pub applied : IsApplied batch
  pub index : slice_get indexes k ≡ Some batch.index
  pub end : slice_get ends k ≡ Some batch.end
  pub now : slice_get new k ≡ Some batch.new
  pub end_now : slice_get new_ends k ≡ Some (end_after batch)

module _
    {indexes new : List IndexValue} {ends new_ends : List (TakeEnd Entry)} {count : ℕ} (is : AreApplied indexes ends count new new_ends) where
  had_at : (k : ℕ) (batch : IndexBatch) → slice_get is.batches k ≡ Some batch → HadBatch indexes ends new new_ends k batch
  had_at k batch at =
      let less : k < length is.batches = below is.batches k batch at in
      let front : (f : IndexBatch → TakeEnd Entry) → slice_get (map f is.batches ++ is.rest) k ≡ Some (f batch) = λ f.
      slice_get-append_left (map f is.batches) is.rest k (omega (arith, less, length-map is.batches f)) ∙ map_at f is.batches k batch at in
      record {
        applied = all_at IsApplied is.batches k batch is.each at;
        index = ap (λ (xs : List IndexValue). slice_get xs k) (sym is.indexes_are) ∙ map_at (λ b. b.index) is.batches k batch at;
        end = ap (λ (xs : List (TakeEnd Entry)). slice_get xs k) (sym is.ends_are) ∙ front (λ b. b.end);
        now = ap (λ (xs : List IndexValue). slice_get xs k) (sym is.new_are) ∙ map_at (λ b. b.new) is.batches k batch at;
        end_now = ap (λ (xs : List (TakeEnd Entry)). slice_get xs k) (sym is.new_ends_are) ∙ front end_after;
      }

  -- each index that was there had one
  pub batch_of : (k : ℕ) (it : IndexValue) → slice_get indexes k ≡ Some it → (batch : IndexBatch) × HadBatch indexes ends new new_ends k batch
  batch_of k it at =
      let found = at_map (λ (b : IndexBatch). b.index) is.batches k it (ap (λ (xs : List IndexValue). slice_get xs k) is.indexes_are ∙ at) in
      (found.0, had_at k found.0 found.1)

  -- and each that is there
  pub batch_to : (k : ℕ) (it : IndexValue) → slice_get new k ≡ Some it → (batch : IndexBatch) × HadBatch indexes ends new new_ends k batch
  batch_to k it at =
      let found = at_map (λ (b : IndexBatch). b.new) is.batches k it (ap (λ (xs : List IndexValue). slice_get xs k) is.new_are ∙ at) in
      (found.0, had_at k found.0 found.1)

  -- and has its pairs in order
  pub batch_loads : (k : ℕ) (it : IndexValue) → slice_get new k ≡ Some it → is_some it.built ≡ true
  batch_loads k it at =
      let had = batch_to k it at in
      let applied : IsApplied had.0 = had.1.applied in
      let its : had.0.new ≡ it = same_Some had.0.new it (sym had.1.now ∙ at) in
      ap (λ (i : IndexValue). is_some i.built) (sym its ∙ applied.left)

  -- none is lost
  pub batches_long : length new ≡ length indexes
  batches_long =
      ap length (sym is.new_are) ∙ length-map is.batches (λ b. b.new) ∙ sym (length-map is.batches (λ b. b.index)) ∙ ap length is.indexes_are

-- ---- what the work keeps

module _
    (workers : List WorkerValue) (spools : List SpoolValue) (work : WorkValue) (ends new_ends : List (TakeEnd Entry)) (count : ℕ) (new : List IndexValue)
    (is : AreApplied work.indexes ends count new new_ends) where
  abbrev new_work : WorkValue
  new_work = record work { indexes = new }

  -- an index that had a batch has its pairs in order
  in_order : (batch : IndexBatch) → IsApplied batch → batch.new.built ≡ None → ⊥
  in_order batch applied none =
      let some : batch.new.built ≡ Some applied.after = ap (λ (i : IndexValue). i.built) applied.left in
      let bad : Some applied.after ≡ None = sym some ∙ none in
      cc

  none_more : (k : ℕ) → IsUnloaded k new_work → IsUnloaded k work
  none_more k none it at =
      let had = batch_of is k it at in
      absurd (in_order had.0 had.1.applied (none had.0.new had.1.now))

  index_kept :
      (spec : KeySpecValue) (k : ℕ) (batch : IndexBatch) → HadBatch work.indexes ends new new_ends k batch → IsIndexOf work.build spec workers batch.end batch.index
      → IsIndexOf work.build spec workers (end_after batch) batch.new
  index_kept spec k batch had was =
      let applied : IsApplied batch = had.applied in
      subst (IsIndexOf work.build spec workers (end_after batch)) (sym applied.left)
      (applied_index workers ends spools work k batch.index had.index applied.built applied.after applied.loaded batch.end (end_after batch) had.end
      (entries_of batch) refl applied.applied applied.ordered (batch.index.applied + length (entries_of batch)) spec was)

  kept_on : IsKept workers ends spools work → IsKept workers new_ends spools new_work
  kept_on kept = record {
    many = batches_long is ∙ kept.many;
    placed = kept.placed;
    indexes = λ k spec end it here at_end at.
        let had = batch_to is k it at in
        let batch : IndexBatch = had.0 in
        let was = kept.indexes k spec batch.end batch.index here had.1.end had.1.index in
        let its : batch.new ≡ it = same_Some batch.new it (sym had.1.now ∙ at) in
        let its_end : end_after batch ≡ end = same_Some (end_after batch) end (sym had.1.end_now ∙ at_end) in
        subst (λ (e : TakeEnd Entry). IsIndexOf work.build spec workers e it) its_end
        (subst (IsIndexOf work.build spec workers (end_after batch)) its (index_kept spec k batch had.1 was));
    lent = kept.lent;
    unloaded = λ scans. all_from (λ (index : IndexValue). index.built ≡ None) new (λ k it at.
        let had = batch_to is k it at in
        let applied : IsApplied had.0 = had.1.applied in
        let none : had.0.index.built ≡ None = all_at (λ (index : IndexValue). index.built ≡ None) work.indexes k had.0.index (kept.unloaded scans) had.1.index in
        let bad : Some applied.built ≡ None = sym applied.loaded ∙ none in
        absurd (cc));
    handed = kept.handed;
    columns = λ loads. open_fewer (λ i. IsUnloaded i work) (λ i. IsUnloaded i new_work) work.specs workers spools none_more (kept.columns loads);
    once = λ loads i less empty. kept.once loads i less (none_more i empty);
  }

  pub batches_kept : KeepsWork workers ends spools (Some work) → KeepsWork workers new_ends spools (Some new_work)
  batches_kept keeps = λ fine. kept_on (keeps fine)

-- ---- a building

module _
    (old seen : BuildingValue) (work held : WorkValue) (ends new_ends : List (TakeEnd Entry)) (new : List IndexValue) (same : seen ≡ old)
    (runs : seen.work ≡ Some work) (is : held ≡ work) (sides : seen.sides ≡ ends) where
  it_runs : old.work ≡ Some held
  it_runs = ap (λ (b : BuildingValue). b.work) (sym same) ∙ runs ∙ ap Some (sym is)

  its_sides : ends ≡ old.sides
  its_sides = sym sides ∙ ap (λ (b : BuildingValue). b.sides) same

  pub has_applied : (count : ℕ) → AreApplied held.indexes ends count new new_ends
      → HasAppliedBatches old count (record seen { sides = new_ends; work = Some (record held { indexes = new }) })
  has_applied count applied = record {
    work = held;
    runs = it_runs;
    indexes = new;
    ends = new_ends;
    applied = subst (λ (es : List (TakeEnd Entry)). AreApplied held.indexes es count new new_ends) its_sides applied;
    left = ap (λ (b : BuildingValue). record b { sides = new_ends; work = Some (record held { indexes = new }) }) same;
  }

  pub batches_stopped : (fault : Fault) → length new ≡ length held.indexes → taken_rings new_ends ≡ taken_rings ends
      → BatchesStopped old fault (record seen { sides = new_ends; work = Some (record held { indexes = new; spoiled = Some fault }) })
  batches_stopped fault many rings = record {
    work = held;
    runs = it_runs;
    indexes = new;
    many = many;
    ends = new_ends;
    rings = rings ∙ ap taken_rings its_sides;
    left = ap (λ (b : BuildingValue). record b { sides = new_ends; work = Some (record held { indexes = new; spoiled = Some fault }) }) same;
  }
