-- What was made of a copy where memory is wanted: the first pairs of each index.
use Rattle.std.proofs.Common.{ℕ, List, [], ◌++◌, append_assoc, append-nil, get_or, refl, sym, ap, ◌∙◌, inl, inr}
use Rattle.std.proofs.lemmas.Bool.{cases_lt}
use Rattle.keybytes.specs.declared.pair.Pair.{Pair}
use Rattle.run_maker.specs.Making.{AddsAt, AddsFirst, Holdings, Reached}
use Rattle.run_maker.specs.Spooling.{Adds}
use Rattle.run_maker.proofs.Spoolings.{adds_more, adds_none}

-- no pair more is the first of any
pub first_none : (i : ℕ) (made : List Pair) (held : Holdings) → AddsFirst i made held held
first_none i made held = ([], made, refl, adds_none (get_or held.runs i []) (get_or held.begun i []))

-- where some indexes have theirs and the others nothing, each has the first of its own
pub reached_first : (made : ℕ → List Pair) (count : ℕ) (old new : Holdings) → Reached (λ i. Adds (made i)) count old new → (i : ℕ) → AddsFirst i (made i) old new
reached_first made count old new was i = elim (cases_lt i count) [
  | inl lt ↦ (made i, [], sym (append-nil (made i)), was.done i lt)
  | inr le ↦
      ([], made i, refl, rw (was.same_runs i le, was.same_begun i le) (adds_none (get_or old.runs i []) (get_or old.begun i [])))
]

-- pairs, and then the first of more
pub first_more :
    (before next later : List Pair) (i : ℕ) (start middle end : Holdings) → AddsAt i before start middle → AddsFirst i next middle end
    → AddsFirst i ((before ++ next) ++ later) start end
first_more before next later i start middle end was part =
    let first = part.0 in
    let others = part.1 in (
      before ++ first,
      others ++ later,
      ap (λ (ps : List Pair). (before ++ ps) ++ later) part.2 ∙ ap (λ (ps : List Pair). ps ++ later) (sym (append_assoc before first others))
          ∙ append_assoc (before ++ first) others later,
      adds_more before first (get_or start.runs i []) (get_or start.begun i []) (get_or middle.runs i []) (get_or middle.begun i [])
          (get_or end.runs i []) (get_or end.begun i []) was part.3,
    )
