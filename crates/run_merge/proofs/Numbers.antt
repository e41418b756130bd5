-- The runs of several spools, numbered through.
use Rattle.std.proofs.Common.{◌≡◌, ℕ, zero, suc, ◌+◌, ◌-◌, ◌<◌, List, [], ◌∷◌, ◌++◌, length, get_or, set, take, map, refl, sym, ap, ◌∙◌, arith}
use Rattle.std.specs.List.{flat_map}
use Rattle.std.proofs.lemmas.List.{length-append, set-append_left, set-append_right}
use Rattle.std.proofs.lemmas.List.Concat.{get_or-flat_map}
use Rattle.std.proofs.lemmas.List.Folds.{flat_map-map}
use Rattle.keybytes.specs.declared.pair.Pair.{Pair}
use Rattle.run_merge.specs.Merging.{all_runs}

-- the runs of all spools, in two ways
pub together : {X : Type 0} (f : X → List (List Pair)) (xs : List X) → all_runs (map f xs) ≡ flat_map f xs
together f xs = flat_map-map (λ (rs : List (List Pair)). rs) f xs

-- the run of that number
pub run_at : {X : Type 0} (f : X → List (List Pair)) (xs : List X) (s own run : ℕ) (d : X) → s < length xs → own < length (f (get_or xs s d))
    → length (flat_map f (take s xs)) + own ≡ run → get_or (all_runs (map f xs)) run [] ≡ get_or (f (get_or xs s d)) own []
run_at f xs s own run d lt in' is =
    ap (λ (rs : List (List Pair)). get_or rs run []) (together f xs)
    ∙ (ap (λ (n : ℕ). get_or (flat_map f xs) n []) (sym is) ∙ get_or-flat_map f xs s own d [] lt in')

-- a write to it
written : {X : Type 0} (f : X → List (List Pair)) (xs : List X) (s own run : ℕ) (d y : X) (r : List Pair) → s < length xs → own < length (f (get_or xs s d))
    → length (flat_map f (take s xs)) + own ≡ run → f y ≡ set (f (get_or xs s d)) own r → flat_map f (set xs s y) ≡ set (flat_map f xs) run r
written f [] s own run d y r lt in' is same = absurd (omega (arith, lt))
written f (x ∷ xs) zero own run d y r lt in' is same =
    let e : run ≡ own = omega (arith, is) in
    rw e (ap (λ (rs : List (List Pair)). rs ++ flat_map f xs) same ∙ sym (set-append_left (f x) (flat_map f xs) own r in'))
written f (x ∷ xs) (suc s) own run d y r lt in' is same =
    let before = length (flat_map f (take s xs)) + own in
    let e : run ≡ length (f x) + before = omega (arith, is, length-append (f x) (flat_map f (take s xs))) in
    let back : run - length (f x) ≡ before = omega (arith, e) in
    let rest = written f xs s own before d y r (omega (arith, lt)) in' refl same in
    ap (λ (rs : List (List Pair)). f x ++ rs) rest
    ∙ (ap (λ (n : ℕ). f x ++ set (flat_map f xs) n r) (sym back) ∙ sym (set-append_right (f x) (flat_map f xs) (length (f x)) run r refl (omega (arith, e))))

-- the same, as a merge tells the runs
pub run_set : {X : Type 0} (f : X → List (List Pair)) (xs : List X) (s own run : ℕ) (d y : X) (r : List Pair) → s < length xs → own < length (f (get_or xs s d))
    → length (flat_map f (take s xs)) + own ≡ run → f y ≡ set (f (get_or xs s d)) own r → all_runs (map f (set xs s y)) ≡ set (all_runs (map f xs)) run r
run_set f xs s own run d y r lt in' is same =
    together f (set xs s y) ∙ (written f xs s own run d y r lt in' is same ∙ ap (λ (rs : List (List Pair)). set rs run r) (sym (together f xs)))
