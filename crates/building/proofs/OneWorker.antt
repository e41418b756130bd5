-- What stands beside a table, where its build goes on, and where it ends.
use Rattle.std.proofs.Common.{◌≡◌, List, map, [], true, false, Option, Some, None, sym, ap, ◌∙◌, subst, append-nil}
use Rattle.std.proofs.lemmas.Option.{same_Some}
use Rattle.page_workers.specs.SpoolValue.{SpoolValue, ended_spool}
use Rattle.building.specs.BuildingValue.{BuildingValue, WorkValue, given_up}
use Rattle.building.specs.Holding.{all_spools, spools_state}
use Rattle.building.specs.Keeping.{IsKept, KeepsWork}
use Rattle.page_workers.proofs.Places.{mapped}

pub the_work : (o : Option WorkValue) (a b : WorkValue) → o ≡ Some a → o ≡ Some b → a ≡ b
the_work o a b one other = same_Some a b (sym one ∙ other)

-- work that goes on while its workers have their spools, as it was seen
module _
    (old seen : BuildingValue) (work its : WorkValue) (same : seen ≡ old) (runs : seen.work ≡ Some work) (is : old.work ≡ Some its) (fine : its.spoiled ≡ None)
    (scans : its.handed ≡ false) (keeps : KeepsWork seen.workers seen.sides seen.spools seen.work) where
  pub its_work : its ≡ work
  its_work = the_work old.work its work is (ap (λ (b : BuildingValue). b.work) (sym same) ∙ runs)

  pub still_fine : work.spoiled ≡ None
  still_fine = ap (λ (w : WorkValue). w.spoiled) (sym its_work) ∙ fine

  pub still_scans : work.handed ≡ false
  still_scans = ap (λ (w : WorkValue). w.handed) (sym its_work) ∙ scans

  pub work_kept : IsKept seen.workers seen.sides seen.spools work
  work_kept = subst (λ (o : Option WorkValue). KeepsWork seen.workers seen.sides seen.spools o) runs keeps still_fine

-- spools that are ended, where a build was given them
pub ended_stakes :
    (building : BuildingValue) → building.given ≡ true
    → spools_state (given_up building).given (all_spools (given_up building).workers (given_up building).spools)
    ≡ spools_state building.given (all_spools building.workers building.spools)
ended_stakes building given =
    let all : List SpoolValue = all_spools building.workers building.spools in
    let stakes =
    ap (map (λ (s : SpoolValue). s.stake)) (append-nil (map ended_spool all)) ∙ mapped ended_spool (λ (s : SpoolValue). s.stake) all in
    rw given (ap (λ l. record { stakes = l; left = [] }) stakes)
