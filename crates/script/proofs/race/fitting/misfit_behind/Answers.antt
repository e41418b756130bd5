use Rattle.std.proofs.Common.{◌≡◌, ℕ, List, refl}
use Rattle.script.specs.Misfits.{TellsUnfit}
use Rattle.script.specs.RaceMisfits.{TellsBehind}
use Rattle.script.specs.RaceShapes.{race_parts, race_repeated}
use Rattle.script.specs.declared.race.name.RaceName.{RaceName}
use Rattle.script.specs.declared.race.name.RaceName.TheVariants.{Table, Row, Spools, Build, Go, In}
use Rattle.script.specs.declared.unfit.Unfit.{Unfit}
use Rattle.script.proofs.race.fitting.misfit_behind.Goals as goal

-- behind a name other than `in`, fields are told from its parts
behind : (name : RaceName) (fields : List (List ℕ)) (unfit : Unfit) → (name ≡ In → ⊥) → TellsUnfit (race_parts name) (race_repeated name) 2 fields unfit
    → TellsBehind name fields unfit
behind Table fields unfit other tells = tells
behind Row fields unfit other tells = tells
behind Spools fields unfit other tells = tells
behind Build fields unfit other tells = tells
behind Go fields unfit other tells = tells
behind In fields unfit other tells = absurd (other refl)

pub returns-in-Some : goal.returns-in-Some
returns-in-Some c =
    let told = rw c.in-Some.is at c.in_ok-unfit.ensures in
    let of_parts = rw c.parts.ensures at told in
    (refl, behind c.args.name _ c.in-Some.unfit c.requires (rw c.repeated.ensures at of_parts))
