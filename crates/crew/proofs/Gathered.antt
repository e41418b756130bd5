-- Workers that come back from their threads are in their build again.
use Rattle.std.proofs.Common.{◌≡◌, false, List, [], ◌∷◌, Some, None, refl, sym, ap, subst, ◌∙◌}
use Rattle.std.specs.Prelude.{IfSome, Option}
use Rattle.std.specs.List.{All}
use Rattle.std.proofs.lemmas.List.Elements.{All-head, All-tail}
use Rattle.keybytes.specs.Faults.{first_cause}
use Rattle.keybytes.specs.Keys.{KeySpecValue}
use Rattle.keybytes.specs.declared.fault.Fault.{Fault}
use Rattle.page_workers.specs.SpoolValue.{stakes_of}
use Rattle.page_workers.specs.WorkerValue.{WorkerValue}
use Rattle.building.proofs.OneWorker.{the_work}
use Rattle.building.specs.BuildingValue.{BuildingValue, WorkValue}
use Rattle.building.specs.Holding.{all_spools}
use Rattle.building.specs.Lent.{lowest_fault}
use Rattle.crew.specs.Places.{GoesOnWith, StillScans, places_of, stakes_beside}
use Rattle.crew.proofs.Places.{same_stakes}
use Rattle.crew.proofs.Steps.{goes_with}

none_stopped : (workers : List WorkerValue) → All (λ (w : WorkerValue). w.fault ≡ None) workers → lowest_fault workers ≡ None
none_stopped [] all = refl
none_stopped (w ∷ ws) all =
    ap (λ (o : Option Fault). first_cause o (lowest_fault ws)) (All-head (λ (v : WorkerValue). v.fault ≡ None) w ws all)
    ∙ none_stopped ws (All-tail (λ (v : WorkerValue). v.fault ≡ None) w ws all)

-- what stands beside the table once these workers are back
abbrev with_back : BuildingValue → List WorkerValue → WorkValue → BuildingValue
with_back building back w = record building { workers = back; work = Some (record w { spoiled = lowest_fault back }) }

module _
    (building rest new : BuildingValue) (lent back : List WorkerValue) (lent_is : lent ≡ building.workers) (rest_is : rest ≡ record building { workers = [] })
    (same : places_of back ≡ places_of lent) (gathers : IfSome rest.work (λ w. new ≡ with_back rest back w)) (w : WorkValue) (runs : building.work ≡ Some w) where
  left : new ≡ with_back building back w
  left =
      subst (λ (o : Option WorkValue). IfSome o (λ x. new ≡ with_back rest back x)) (ap (λ (b : BuildingValue). b.work) rest_is ∙ runs) gathers
      ∙ ap (λ (b : BuildingValue). with_back b back w) rest_is

  pub gathered_stakes : stakes_beside new ≡ stakes_beside building
  gathered_stakes =
      ap stakes_beside left ∙ same_stakes lent back building.spools same
      ∙ ap (λ (ws : List WorkerValue). stakes_of (all_spools ws building.spools)) lent_is

  pub gathered_goes_on : All (λ (v : WorkerValue). v.fault ≡ None) back → (specs : List KeySpecValue) → GoesOnWith 0 specs building → GoesOnWith 0 specs new
  gathered_goes_on fine specs on =
      let its : w ≡ on.work = the_work building.work w on.work runs on.runs in
      goes_with 0 specs building new on (record w { spoiled = lowest_fault back }) (ap (λ (b : BuildingValue). b.work) left) (ap (λ (x : WorkValue). x.specs) its)
      (ap (λ (x : WorkValue). x.indexes) its) (none_stopped back fine ∙ sym on.fine)

  -- its workers have their spools still
  pub gathered_scans : w.handed ≡ false → StillScans new
  gathered_scans scans = subst (λ (o : Option WorkValue). IfSome o (λ x. x.handed ≡ false)) (sym (ap (λ (b : BuildingValue). b.work) left)) scans
