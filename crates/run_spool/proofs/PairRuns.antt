-- The runs of a plain spool, as lists of pairs.
use Rattle.std.proofs.Common.{◌≡◌, ℕ, ◌<◌, List, [], ◌∷◌, ◌++◌, length, get_or, set, drop, refl, sym, ap, ◌∙◌, subst, arith, ◌⊎◌, inl, inr}
use Rattle.std.specs.Prelude.{map}
use Rattle.std.specs.List.{All}
use Rattle.std.proofs.Math.ListN.{get_or-map}
use Rattle.std.proofs.lemmas.List.{length-map, length-append, map-append, map-set}
use Rattle.std.proofs.lemmas.List.Elements.{All-head, All-nil, All-push}
use Rattle.keybytes.specs.declared.pair.Pair.{Pair}
use Rattle.run_spool.specs.Pages.{IsPacked, PageValue}
use Rattle.run_spool.specs.Runs.{pairs_of, without_pairs, HasPairs}
use Rattle.run_spool.specs.Spools.{NoneEmpty, with_closed_run}
use Rattle.run_spool.proofs.RunSteps.{pairs_without}

some_pages : (run : List PageValue) → 0 < length (pairs_of run) → 0 < length run
some_pages [] lt = absurd (omega arith)
some_pages (p ∷ ps) lt = omega arith

-- runs that each have a pair each have a page
pub none_empty : (runs : List (List PageValue)) → All (λ run. 0 < length run) (map pairs_of runs) → NoneEmpty runs
none_empty runs some =
    λ (k : ℕ) (d : List PageValue) (lt : k < length runs). (
    let one = some k (pairs_of d) (omega (arith, length-map runs pairs_of)) in
    some_pages (get_or runs k d) (rw (← get_or-map pairs_of runs k d) one)
    )

pub no_runs : (runs : List (List PageValue)) → map pairs_of runs ≡ [] → runs ≡ []
no_runs [] e = refl
no_runs (r ∷ rs) e = cc

pub freed_runs : (runs : List (List PageValue)) (i n : ℕ)
    → map pairs_of (set runs i (without_pairs n (get_or runs i []))) ≡ set (map pairs_of runs) i (drop n (get_or (map pairs_of runs) i []))
freed_runs runs i n =
    map-set pairs_of runs i (without_pairs n (get_or runs i []))
    ∙ ap (set (map pairs_of runs) i) (pairs_without (get_or runs i []) n ∙ ap (drop n) (sym (get_or-map pairs_of runs i [])))

closed_some : (runs : List (List Pair)) (ps : List Pair) → 0 < length ps → with_closed_run runs ps ≡ runs ++ ps ∷ []
closed_some runs [] lt = absurd (omega arith)
closed_some runs (p ∷ ps) lt = refl

-- the open run closed, in pages and in pairs
pub closed_pairs : (runs : List (List PageValue)) (run : List PageValue) → All HasPairs run →
    map pairs_of (with_closed_run runs run) ≡ with_closed_run (map pairs_of runs) (pairs_of run)
closed_pairs runs [] each = refl
closed_pairs runs (p ∷ ps) each =
    let one : 0 < length p.pairs = All-head HasPairs p ps each in
    map-append pairs_of runs ((p ∷ ps) ∷ [])
    ∙ sym (closed_some (map pairs_of runs) (pairs_of (p ∷ ps)) (omega (arith, length-append p.pairs (pairs_of ps))))

with_one : (size : List ℕ → Pair → ℕ) (runs : List (List PageValue)) (run : List PageValue) → All (IsPacked size) run
    → All (All (IsPacked size)) runs → All (All (IsPacked size)) (with_closed_run runs run)
with_one size runs [] packed before = before
with_one size runs (page ∷ run) packed before = All-push (All (IsPacked size)) runs (page ∷ run) before packed

-- the pages of the open run are packed, so that no pair is freed of the runs with it where none was before
pub closed_intact : (size : List ℕ → Pair → ℕ) (runs : List (List PageValue)) (run : List PageValue) → All (IsPacked size) run
    → (map pairs_of runs ≡ []) ⊎ All (All (IsPacked size)) runs → All (All (IsPacked size)) (with_closed_run runs run)
closed_intact size runs run packed free =
    let before : All (All (IsPacked size)) runs = elim free [
      | inl none ↦ subst (All (All (IsPacked size))) (sym (no_runs runs none)) (All-nil (All (IsPacked size)))
      | inr all ↦ all
    ] in
    with_one size runs run packed before
