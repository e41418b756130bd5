-- Workers that keep their places go back to their build, with the stakes of their spools.
use Rattle.std.proofs.Common.{◌≡◌, ℕ, ◌+◌, List, [], ◌∷◌, ◌++◌, length, Option, Some, refl, sym, ap, ◌∙◌}
use Rattle.std.specs.Prelude.{flat_map}
use Rattle.std.proofs.lemmas.List.{map-append}
use Rattle.side_file.specs.Ends.{RingId}
use Rattle.spool_ledger.specs.Accounts.{Stake}
use Rattle.page_workers.specs.SpoolValue.{SpoolValue, stakes_of}
use Rattle.page_workers.specs.WorkerValue.{SameWorker, WorkerValue}
use Rattle.page_workers.proofs.Places.{as_long, same_at}
use Rattle.building.specs.BuildingValue.{BuildingValue}
use Rattle.building.specs.Holding.{all_spools, workers_spools}
use Rattle.building.specs.Lent.{AreBack, IsBack}
use Rattle.crew.specs.Places.{PlaceValue, place_of, places_of}

-- a worker that is the same keeps its place
pub same_place : (old new : WorkerValue) → SameWorker old new → place_of new ≡ place_of old
same_place old new same =
    let number = same.number in
    let ring = same.ring in
    let build = same.build in
    let specs = same.specs in
    let handed = same.handed in
    let stakes = same.stakes in
    cc

-- one in the place of another that was back is back
back_in :
    (rings : List RingId) (build : ℕ) (specs : List _) (place : ℕ) (old new : WorkerValue) → place_of new ≡ place_of old → IsBack rings build specs place old
    → IsBack rings build specs place new
back_in rings build specs place old new same back = record {
  number = ap (λ (place : PlaceValue). place.number) same ∙ back.number;
  ring = back.ring ∙ ap (λ (place : PlaceValue). Some place.ring) (sym same);
  of_build = ap (λ (place : PlaceValue). place.build) same ∙ back.of_build;
  specs_are = ap (λ (place : PlaceValue). place.specs) same ∙ back.specs_are;
  has_them = ap (λ (place : PlaceValue). place.handed) same ∙ back.has_them;
  own = as_long (λ (s : SpoolValue). s.stake) (λ (s : SpoolValue). s.stake) new.spools old.spools (ap (λ (place : PlaceValue). place.stakes) same) ∙ back.own;
}

-- so are all, in the places of all
pub all_back :
    (rings : List RingId) (rest : BuildingValue) (old new : List WorkerValue) → places_of new ≡ places_of old → AreBack rings rest old → AreBack rings rest new
all_back rings rest old new same back = record {
  work = back.work;
  runs = back.runs;
  all = ap (λ n. n + length rest.idle) (as_long place_of place_of new old same) ∙ back.all;
  each = λ place worker at.
      let it = same_at place_of old new place worker (sym same) at in
      back_in rings back.work.build back.work.specs place it.0 worker (sym it.2) (back.each place it.0 it.1);
}

-- the stakes of what workers have are told by their places
stakes_in_places : (workers : List WorkerValue) → stakes_of (workers_spools workers) ≡ flat_map (λ (place : PlaceValue). place.stakes) (places_of workers)
stakes_in_places [] = refl
stakes_in_places (w ∷ ws) =
    map-append (λ (s : SpoolValue). s.stake) w.spools (workers_spools ws)
    ∙ ap (λ (l : List (Option Stake)). stakes_of w.spools ++ l) (stakes_in_places ws)

-- and those of all spools
pub same_stakes :
    (old new : List WorkerValue) (spools : List SpoolValue) → places_of new ≡ places_of old → stakes_of (all_spools new spools) ≡ stakes_of (all_spools old spools)
same_stakes old new spools same =
    let stake : SpoolValue → Option Stake = λ s. s.stake in
    map-append stake spools (workers_spools new)
    ∙ ap (λ (l : List (Option Stake)). stakes_of spools ++ l)
    (stakes_in_places new ∙ ap (flat_map (λ (place : PlaceValue). place.stakes)) same ∙ sym (stakes_in_places old))
    ∙ sym (map-append stake spools (workers_spools old))
