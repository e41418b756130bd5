-- What stands beside a table, where the rings of its workers were looked at.
use Rattle.std.proofs.Common.{◌≡◌, ℕ, ◌*◌, ◌≤◌, Bool, false, List, [], ◌∷◌, ◌++◌, length, map, set, slice_get, arith, Option, Some, None, refl, sym, ap, ◌∙◌, subst}
use Rattle.page_workers.specs.SpoolValue.{SpoolValue}
use Rattle.page_workers.specs.WorkerValue.{WorkerValue}
use Rattle.building.specs.BuildingValue.{WorkValue, IsUnloaded, work_state, intakes, state_unless, index_state}
use Rattle.building.specs.Holding.{HaveColumns, all_spools, workers_spools}
use Rattle.building.specs.Rings.{AreTakeEnds, unseen}
use Rattle.building.proofs.AtWork.{states_same}
use Rattle.building.specs.Keeping.{AreNumbered, KeepsWork}
use Rattle.building.proofs.Kept.{looked_kept}
use Rattle.building.proofs.Looks.{ends_same, rings_looked}
use Rattle.building.proofs.Numbered.{numbered_looked}
use Rattle.std.proofs.lemmas.List.{map-set, nil_from_length}
use Rattle.page_workers.specs.Turns.{HasLooked}
use Rattle.side_file.specs.Ends.{RingId}
use Rattle.side_file.specs.declared.entry.Entry.{Entry}
use Rattle.page_workers.specs.IntakeValue.{IntakeValue}
use Rattle.side_file.specs.Ends.{TakeEnd}
use Rattle.page_workers.proofs.Places.{as_long, same_at, set_same}
use Rattle.std.specs.Prelude.{flat_map}
use Rattle.page_workers.specs.Holding.{HoldsPairs}
use Rattle.page_workers.specs.Taking.{received_images}
use Rattle.run_maker.specs.Making.{spec_at}

-- lists of what is made of elements, one behind another
flat_map_map : {X Y Z : Type 0} (f : X → Y) (g : Y → List Z) (xs : List X) → flat_map g (map f xs) ≡ flat_map (λ x. g (f x)) xs
flat_map_map f g [] = refl
flat_map_map f g (x ∷ xs) = ap (λ l. g (f x) ++ l) (flat_map_map f g xs)

-- the workers have the same spools
pub lent_looked : (old new : List WorkerValue) → map unseen new ≡ map unseen old → workers_spools new ≡ workers_spools old
lent_looked old new same =
    let own : WorkerValue → List SpoolValue = λ v. v.spools in
    sym (flat_map_map unseen own new) ∙ ap (flat_map own) same ∙ flat_map_map unseen own old

-- callers see no difference
pub states_looked : (old new : List WorkerValue) (work : Option WorkValue) → map unseen new ≡ map unseen old → work_state new work ≡ work_state old work
states_looked old new None same = refl
states_looked old new (Some w) same = by_fault w.spoiled where
  by_fault : (o : Option _) → state_unless o new w ≡ state_unless o old w
  by_fault (Some fault) = refl
  by_fault None = ap (λ ws. record { workers = ws; indexes = map index_state w.indexes; spoiled = None }) (states_same old new same)

-- the spools of the workers hold what they held
pub columns_looked :
    (old new : List WorkerValue) (spools : List SpoolValue) (w : WorkValue) → map unseen new ≡ map unseen old
    → HaveColumns (λ index. IsUnloaded index w) w.specs old spools → HaveColumns (λ index. IsUnloaded index w) w.specs new spools
columns_looked old new spools w same columns = record {
  many = columns.many ∙ ap (λ (n : ℕ). n * length w.specs) (sym (as_long unseen unseen new old same));
  sorted = columns.sorted;
  pairs = λ index k worker spool less opened at lent.
      let it = same_at unseen old new k worker (sym same) at in
      subst (λ (v : WorkerValue). HoldsPairs (spec_at w.specs index) (received_images v.maker.schema v.intake) spool.runs []) it.2
      (columns.pairs index k it.0 spool less opened it.1 lent);
}

-- what stands beside a table keeps what it kept
pub beside_looked :
    (pages sides : List RingId) (old new : List WorkerValue) (idle : List IntakeValue) (ends : List (TakeEnd Entry)) (home : List SpoolValue) (idle_room room : ℕ)
    (work : Option WorkValue) (given : Bool) (Ended : Type 0) → map unseen new ≡ map unseen old
    → AreTakeEnds pages sides (intakes old idle) ends × (16 ≤ idle_room) × (length (all_spools old home) ≤ room) × (work ≡ None → old ≡ [])
    × (given ≡ false → work ≡ None) × Ended × KeepsWork old ends home work × AreNumbered old
    → AreTakeEnds pages sides (intakes new idle) ends × (16 ≤ idle_room) × (length (all_spools new home) ≤ room) × (work ≡ None → new ≡ [])
    × (given ≡ false → work ≡ None) × Ended × KeepsWork new ends home work × AreNumbered new
beside_looked pages sides old new idle ends home idle_room room work given Ended same (are, idle_fits, fits, no_work, not_given, ended, kept, numbered) =
    let none : old ≡ [] → new ≡ [] = λ e. let long = as_long unseen unseen new old same in nil_from_length new (omega (arith, long, ap length e)) in (
      ends_same pages sides old new idle ends are (rings_looked old new same),
      idle_fits,
      subst (λ (l : List SpoolValue). length (home ++ l) ≤ room) (sym (lent_looked old new same)) fits,
      λ e. none (no_work e),
      not_given,
      ended,
      looked_kept old new ends home work same kept,
      numbered_looked old new same numbered,
    )

-- a worker that looked into its ring alone is as it was but for what it has seen
pub unseen_after :
    (workers : List WorkerValue) (k : ℕ) (it after : WorkerValue) (seen : ℕ) → slice_get workers k ≡ Some it → HasLooked it seen after
    → map unseen (set workers k after) ≡ map unseen workers
unseen_after workers k it after seen at looked =
    let same : unseen after ≡ unseen it = ap unseen looked.left ∙ ap (λ (i : IntakeValue). unseen (record it { intake = i })) looked.sees.left in
    map-set unseen workers k after ∙ ap (set (map unseen workers) k) same ∙ sym (map-set unseen workers k it) ∙ ap (map unseen) (set_same workers k it at)
