-- Where the runs of several spools stand.
use Rattle.std.specs.Prelude.{◌≡◌, ℕ, ◌+◌, ◌<◌, List, [], length, get_or, take}
use Rattle.keybytes.specs.declared.pair.Pair.{Pair}
use Rattle.run_merge.specs.Merging.{all_runs}
use Rattle.run_merge.specs.declared.place.Place.{Place}

-- the spools having these runs, there is the one of that number
pub record IsPlace (spools : List (List (List Pair))) (run : ℕ) (place : Place) : Type 0 where
  pub spool : place.spool < length spools
  pub own : place.run < length (get_or spools place.spool [])
  pub before : length (all_runs (take place.spool spools)) + place.run ≡ run

-- there are the runs of those numbers
pub record ArePlaces (spools : List (List (List Pair))) (runs : List ℕ) (places : List Place) : Type 0 where
  pub long : length places ≡ length runs
  pub each : (k : ℕ) (d : Place) → k < length runs → IsPlace spools (get_or runs k 0) (get_or places k d)
