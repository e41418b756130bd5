-- Where the runs of several spools stand.
use Rattle.std.proofs.Common.{◌≡◌, ℕ, zero, suc, ◌+◌, ◌<◌, List, [], ◌∷◌, ◌++◌, length, get_or, set, take, map, refl, sym, ap, subst, ◌∙◌, arith, inl, inr}
use Rattle.std.specs.List.{flat_map}
use Rattle.std.proofs.lemmas.Bool.{cases_eq}
use Rattle.std.proofs.lemmas.List.{length-append, length-map, length-set, get_or-map, map-set, take-map, get_or-set_same, get_or-set_other, get_or_push, get_or_append_left}
use Rattle.keybytes.specs.declared.pair.Pair.{Pair}
use Rattle.run_merge.specs.Merging.{all_runs}
use Rattle.run_merge.specs.Places.{IsPlace, ArePlaces}
use Rattle.run_merge.specs.declared.place.Place.{Place}
use Rattle.run_merge.proofs.Numbers.{together, run_at, run_set}

-- as the spools themselves tell it
module _ {X : Type 0} (f : X → List (List Pair)) (xs : List X) (run : ℕ) (place : Place) where
  pub in_spool : IsPlace (map f xs) run place → place.spool < length xs
  in_spool at = omega (arith, at.spool, length-map xs f)

  own_in : (d : X) → IsPlace (map f xs) run place → place.run < length (f (get_or xs place.spool d))
  own_in d at = subst (λ (rs : List (List Pair)). place.run < length rs) (get_or-map f xs place.spool d [] (in_spool at)) at.own

  before_in : IsPlace (map f xs) run place → length (flat_map f (take place.spool xs)) + place.run ≡ run
  before_in at =
      ap (λ (rs : List (List Pair)). length rs + place.run) (sym (ap all_runs (take-map f place.spool xs) ∙ together f (take place.spool xs))) ∙ at.before

  pub run_there : (d : X) → IsPlace (map f xs) run place → get_or (all_runs (map f xs)) run [] ≡ get_or (f (get_or xs place.spool d)) place.run []
  run_there d at = run_at f xs place.spool place.run run d (in_spool at) (own_in d at) (before_in at)

  pub run_there_set : (d y : X) (r : List Pair) → IsPlace (map f xs) run place → f y ≡ set (f (get_or xs place.spool d)) place.run r
      → all_runs (map f (set xs place.spool y)) ≡ set (all_runs (map f xs)) run r
  run_there_set d y r at = run_set f xs place.spool place.run run d y r (in_spool at) (own_in d at) (before_in at)

  pub is_place : (d : X) → place.spool < length xs → place.run < length (f (get_or xs place.spool d))
      → length (flat_map f (take place.spool xs)) + place.run ≡ run → IsPlace (map f xs) run place
  is_place d lt own before = record {
    spool = omega (arith, lt, length-map xs f);
    own = subst (λ (rs : List (List Pair)). place.run < length rs) (sym (get_or-map f xs place.spool d [] lt)) own;
    before = ap (λ (rs : List (List Pair)). length rs + place.run) (ap all_runs (take-map f place.spool xs) ∙ together f (take place.spool xs)) ∙ before;
  }

-- as many runs stand before, where a spool has as many as it had
as_many : (spools : List (List (List Pair))) (a s : ℕ) (new : List (List Pair)) → length new ≡ length (get_or spools s [])
    → length (all_runs (take a (set spools s new))) ≡ length (all_runs (take a spools))
as_many [] a s new same = refl
as_many (x ∷ xs) zero s new same = refl
as_many (x ∷ xs) (suc a) zero new same =
    omega (arith, length-append new (all_runs (take a xs)), length-append x (all_runs (take a xs)), same)
as_many (x ∷ xs) (suc a) (suc s) new same =
    omega (arith, length-append x (all_runs (take a (set xs s new))), length-append x (all_runs (take a xs)), as_many xs a s new same)

pub stays : (spools : List (List (List Pair))) (s : ℕ) (new : List (List Pair)) → length new ≡ length (get_or spools s []) → (run : ℕ) (place : Place)
    → IsPlace spools run place → IsPlace (set spools s new) run place
stays spools s new same run place at = record {
  spool = omega (arith, at.spool, length-set spools s new);
  own = elim (cases_eq place.spool s) [
    | inl e ↦
        let there : s < length spools = omega (arith, e, at.spool) in
        let own : place.run < length (get_or spools s []) = subst (λ (i : ℕ). place.run < length (get_or spools i [])) e at.own in
        let own_now : place.run < length new = omega (arith, own, same) in
        subst (λ (i : ℕ). place.run < length (get_or (set spools s new) i [])) (sym e)
        (subst (λ (rs : List (List Pair)). place.run < length rs) (sym (get_or-set_same spools s new [] there)) own_now)
    | inr n ↦ subst (λ (rs : List (List Pair)). place.run < length rs) (sym (get_or-set_other spools s place.spool new [] n)) at.own
  ];
  before = ap (λ n. n + place.run) (as_many spools place.spool s new same) ∙ at.before;
}

-- the same of spools, one of which has other runs, as many
pub places_stay : {X : Type 0} (f : X → List (List Pair)) (xs : List X) (s : ℕ) (d y : X) → s < length xs → length (f y) ≡ length (f (get_or xs s d))
    → (run : ℕ) (place : Place) → IsPlace (map f xs) run place → IsPlace (map f (set xs s y)) run place
places_stay f xs s d y lt same run place at =
    let many : length (f y) ≡ length (get_or (map f xs) s []) = same ∙ ap length (sym (get_or-map f xs s d [] lt)) in
    subst (λ (spools : List (List (List Pair))). IsPlace spools run place) (sym (map-set f xs s y)) (stays (map f xs) s (f y) many run place at)

-- none yet
pub no_places : (spools : List (List (List Pair))) → ArePlaces spools [] []
no_places spools = record { long = refl; each = λ k d lt. absurd (omega (arith, lt)) }

-- one more
pub place_more : (spools : List (List (List Pair))) (runs : List ℕ) (places : List Place) (run : ℕ) (place : Place) → ArePlaces spools runs places
    → IsPlace spools run place → ArePlaces spools (runs ++ run ∷ []) (places ++ place ∷ [])
place_more spools runs places run place are at = record {
  long = omega (arith, are.long, length-append runs (run ∷ []), length-append places (place ∷ []));
  each = λ k d lt.
      elim (cases_eq k (length runs)) [
        | inl e ↦
            let same : get_or (runs ++ run ∷ []) k 0 ≡ run = get_or_push runs run 0 k (sym e) in
            let there : get_or (places ++ place ∷ []) k d ≡ place = get_or_push places place d k (are.long ∙ sym e) in
            rw (same, there) at
        | inr n ↦
            let below : k < length runs = omega (arith, lt, n, length-append runs (run ∷ [])) in
            let same : get_or (runs ++ run ∷ []) k 0 ≡ get_or runs k 0 = get_or_append_left runs (run ∷ []) 0 k below in
            let there : get_or (places ++ place ∷ []) k d ≡ get_or places k d = get_or_append_left places (place ∷ []) d k (omega (arith, below, are.long)) in
            rw (same, there) (are.each k d below)
      ];
}

-- all of them
pub all_stay : (old new : List (List (List Pair))) (runs : List ℕ) (places : List Place)
    → ((run : ℕ) (place : Place) → IsPlace old run place → IsPlace new run place) → ArePlaces old runs places → ArePlaces new runs places
all_stay old new runs places keep are = record { long = are.long; each = λ k d lt. keep (get_or runs k 0) (get_or places k d) (are.each k d lt) }
