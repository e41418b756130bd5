-- The stakes of all spools of a build, where those of one worker stay.
use Rattle.std.proofs.Common.{◌≡◌, ℕ, zero, suc, List, [], ◌∷◌, ◌++◌, length, set, Option, Some, sym, ap, ◌∙◌}
use Rattle.std.specs.List.{slice_get}
use Rattle.std.proofs.lemmas.List.{map-append}
use Rattle.std.proofs.lemmas.Option.{same_Some}
use Rattle.spool_ledger.specs.Accounts.{Stake}
use Rattle.page_workers.specs.SpoolValue.{SpoolValue, stakes_of}
use Rattle.page_workers.specs.WorkerValue.{WorkerValue}
use Rattle.building.specs.Holding.{all_spools, workers_spools}
use Rattle.page_workers.proofs.Places.{as_long}

-- the stakes of all that workers have, where one of them changed and has the same
lent_stakes :
    (workers : List WorkerValue) (k : ℕ) (it new : WorkerValue) → slice_get workers k ≡ Some it → stakes_of new.spools ≡ stakes_of it.spools
    → stakes_of (workers_spools (set workers k new)) ≡ stakes_of (workers_spools workers)
lent_stakes [] k it new at same = absurd (cc)
lent_stakes (w ∷ ws) zero it new at same =
    let stake : SpoolValue → Option Stake = λ s. s.stake in
    map-append stake new.spools (workers_spools ws)
    ∙ ap (λ (l : List (Option Stake)). l ++ stakes_of (workers_spools ws)) (same ∙ ap (λ (v : WorkerValue). stakes_of v.spools) (sym (same_Some w it at)))
    ∙ sym (map-append stake w.spools (workers_spools ws))
lent_stakes (w ∷ ws) (suc k) it new at same =
    let stake : SpoolValue → Option Stake = λ s. s.stake in
    map-append stake w.spools (workers_spools (set ws k new))
    ∙ ap (λ (l : List (Option Stake)). stakes_of w.spools ++ l) (lent_stakes ws k it new at same)
    ∙ sym (map-append stake w.spools (workers_spools ws))

pub all_stakes :
    (workers : List WorkerValue) (spools : List SpoolValue) (k : ℕ) (it new : WorkerValue) → slice_get workers k ≡ Some it → stakes_of new.spools ≡ stakes_of it.spools
    → stakes_of (all_spools (set workers k new) spools) ≡ stakes_of (all_spools workers spools)
all_stakes workers spools k it new at same =
    let stake : SpoolValue → Option Stake = λ s. s.stake in
    map-append stake spools (workers_spools (set workers k new)) ∙ ap (λ (l : List (Option Stake)). stakes_of spools ++ l) (lent_stakes workers k it new at same)
    ∙ sym (map-append stake spools (workers_spools workers))

-- as many spools as before
pub as_many : (a b : List SpoolValue) → stakes_of a ≡ stakes_of b → length a ≡ length b
as_many a b same = as_long (λ (s : SpoolValue). s.stake) (λ (s : SpoolValue). s.stake) a b same
