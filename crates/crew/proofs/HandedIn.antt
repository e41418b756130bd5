-- The spools that are handed in for a build.
use Rattle.std.proofs.Common.{◌≡◌, ◌&&◌, Bool, true, false, List, [], ◌∷◌, map, Option, refl, sym, ap, ap₂, ◌∙◌}
use Rattle.std.specs.List.{All, list_all}
use Rattle.std.proofs.lemmas.Bool.{false≢true}
use Rattle.std.proofs.lemmas.List.Elements.{All-head, All-tail}
use Rattle.keybytes.specs.declared.pair.Pair.{Pair}
use Rattle.spool_ledger.specs.Accounts.{Stake}
use Rattle.run_spool.specs.Spools.{holds_nothing}
use Rattle.page_workers.specs.SpoolValue.{SpoolValue, spool_value, stakes_of}
use Rattle.index_load.proofs.SpoolsSeen.{stakes_seen}
use Rattle.building.proofs.LeftBeside.{at_home, left_seen}
use Rattle.building.specs.BuildingValue.{BuildingValue}
use Rattle.building.specs.Holding.{all_spools, spools_state}
use Rattle.crew.specs.Places.{HasPairsLeft, stakes_beside}

module _ {S : Type 0} (runs : S → List (List Pair)) (open_run : S → List Pair) (stake : S → Option Stake) where
  -- what stands beside a table has them, and no workers
  pub handed_stakes :
      (spools : List S) (b : BuildingValue) → b.workers ≡ [] → b.spools ≡ map (spool_value runs open_run stake) spools → stakes_beside b ≡ map stake spools
  handed_stakes spools b none are = ap stakes_of (at_home b.workers b.spools none ∙ are) ∙ sym (stakes_seen runs open_run stake spools)

  abbrev Empty : S → Type 0
  Empty spool = (runs spool ≡ []) × (open_run spool ≡ [])

  all_empty : (spools : List S) → All Empty spools → list_all (λ (s : S). holds_nothing (runs s) (open_run s)) spools ≡ true
  all_empty [] all = refl
  all_empty (s ∷ ss) all =
      let first = All-head Empty s ss all in
      let here : holds_nothing (runs s) (open_run s) ≡ true = ap₂ (λ (a : List (List Pair)) (b : List Pair). holds_nothing a b) first.0 first.1 in
      ap₂ (λ (a b : Bool). a && b) here (all_empty ss (All-tail Empty s ss all))

  -- where a start finds one that isn't empty, not all of them are
  pub not_all_empty :
      (spools : List S) (b : BuildingValue) → b.workers ≡ [] → b.spools ≡ map (spool_value runs open_run stake) spools → b.given ≡ false → HasPairsLeft b
      → All Empty spools → ⊥
  not_all_empty spools b none are given has all =
      let value = spool_value runs open_run stake in
      let home : all_spools b.workers b.spools ≡ map value spools = at_home b.workers b.spools none ∙ are in
      let left : list_all (λ is_empty. is_empty) (spools_state b.given (map value spools)).left ≡ false =
      ap (λ (l : List SpoolValue). list_all (λ is_empty. is_empty) (spools_state b.given l).left) (sym home) ∙ has in
      false≢true (sym left ∙ sym (left_seen runs open_run stake b.given spools given) ∙ all_empty spools all)
