-- Spools that hold nothing yet.
use Rattle.std.proofs.Common.{◌≡◌, ◌==◌, ℕ, zero, suc, Bool, true, List, [], ◌∷◌, All, length, map, replicate, ap}
use Rattle.std.proofs.lemmas.Bool.{and_parts, eqb-true}
use Rattle.std.proofs.lemmas.List.{nil_from_length}
use Rattle.std.proofs.lemmas.List.Elements.{All-cons, All-nil}
use Rattle.keybytes.specs.declared.pair.Pair.{Pair}
use Rattle.run_spool.specs.PagedSpools.{runs_of}
use Rattle.run_spool.specs.Runs.{pairs_of}
use Rattle.run_spool.specs.Spools.{holds_nothing}
use Rattle.prefix_spool.specs.Kinds.{inside}
use Rattle.prefix_spool.specs.declared.either.SpoolOfKind.{SpoolOfKind}
use Rattle.run_spool.specs.declared.choice.SpoolChoice.{SpoolChoice}
use Rattle.leased_core.specs.Leasing.{new_spools, spools_of_kinds}

nothing_held : (runs : List (List Pair)) (open_run : List Pair) → holds_nothing runs open_run ≡ true → (runs ≡ []) × (open_run ≡ [])
nothing_held runs open_run e =
    let parts = and_parts (length runs == 0) (length open_run == 0) e in
    (nil_from_length runs (eqb-true (length runs) 0 parts.0), nil_from_length open_run (eqb-true (length open_run) 0 parts.1))

abbrev IsBare : SpoolOfKind → Type 0
IsBare spool = (runs_of (inside spool) ≡ []) × (pairs_of (inside spool).open_run ≡ [])

-- of each of these spools it is known that it holds nothing
pub all_bare :
    (count : ℕ) (spools : List SpoolOfKind)
    → map (λ spool. holds_nothing (runs_of (inside spool)) (pairs_of (inside spool).open_run)) spools ≡ replicate count true
    → All (λ spool. (runs_of (inside spool) ≡ []) × (pairs_of (inside spool).open_run ≡ [])) spools
all_bare count [] e = All-nil IsBare
all_bare zero (spool ∷ spools) e = absurd (cc)
all_bare (suc count) (spool ∷ spools) e =
    let tests : List SpoolOfKind → List Bool = map (λ s. holds_nothing (runs_of (inside s)) (pairs_of (inside s).open_run)) in
    let same : holds_nothing (runs_of (inside spool)) (pairs_of (inside spool).open_run) ∷ tests spools ≡ true ∷ replicate count true = e in
    let first : holds_nothing (runs_of (inside spool)) (pairs_of (inside spool).open_run) ≡ true = cc in
    let rest : tests spools ≡ replicate count true = cc in
    All-cons IsBare spool spools (nothing_held (runs_of (inside spool)) (pairs_of (inside spool).open_run) first) (all_bare count spools rest)

same_at : {S X : Type 0} (a b : S) (f : S → X) → a ≡ b → f a ≡ f b
same_at a b f e = ap f e

-- new spools hold nothing
pub new_bare :
    (choice : SpoolChoice) (count quota : ℕ) (spools : List SpoolOfKind) → spools_of_kinds spools ≡ new_spools choice count quota
    → All (λ spool. (runs_of (inside spool) ≡ []) × (pairs_of (inside spool).open_run ≡ [])) spools
new_bare choice count quota spools e = all_bare count spools (same_at (spools_of_kinds spools) (new_spools choice count quota) (λ s. s.left) e)
