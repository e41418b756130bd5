-- Calls that go from index to index.
use Rattle.std.proofs.Common.{◌≡◌, ◌≢◌, ℕ, ◌+◌, ◌<◌, List, [], All, length, get_or, set, map, refl, sym, ◌∙◌, subst, arith, inl, inr}
use Rattle.std.proofs.Math.ListN.{get_or-map}
use Rattle.std.proofs.lemmas.Bool.{cases_eq}
use Rattle.std.proofs.lemmas.List.{get_or-set_other, get_or-set_same, get_or_default, length-map, map-set}
use Rattle.std.proofs.lemmas.List.Elements.{All-set}
use Rattle.keybytes.specs.declared.pair.Pair.{Pair}
use Rattle.run_spool.specs.Spools.{NoneEmpty}
use Rattle.run_maker.specs.Making.{AreReady, Holdings, Reached}

-- what f reads of one element
pub read_at : {X Y : Type 0} (f : X → Y) (xs : List X) (i : ℕ) (d : X) (e : Y) → i < length xs → get_or (map f xs) i e ≡ f (get_or xs i d)
read_at f xs i d e lt = get_or_default (map f xs) i e (f d) (omega (arith, lt, length-map xs f)) ∙ get_or-map f xs i d

-- what holds of all that f reads
pub holds_at : {X Y : Type 0} (P : Y → Type 0) (f : X → Y) (xs : List X) (i : ℕ) (d : X) → i < length xs → All P (map f xs) → P (f (get_or xs i d))
holds_at P f xs i d lt all = subst P (get_or-map f xs i d) (all i (f d) (omega (arith, lt, length-map xs f)))

-- the same after a write
pub holds_after : {X Y : Type 0} (P : Y → Type 0) (f : X → Y) (xs : List X) (i : ℕ) (x : X) → P (f x) → All P (map f xs) → All P (map f (set xs i x))
holds_after P f xs i x here all = subst (All P) (sym (map-set f xs i x)) (All-set P (map f xs) i (f x) here all)

-- a spool that is ready in place of another
pub ready_after : {X : Type 0} (runs : X → List (List Pair)) (open_run : X → List Pair) (xs : List X) (i : ℕ) (x : X) → NoneEmpty (runs x) → open_run x ≡ []
    → AreReady (map runs xs) (map open_run xs) → AreReady (map runs (set xs i x)) (map open_run (set xs i x))
ready_after runs open_run xs i x none_empty none ready = record {
  none_empty = holds_after NoneEmpty runs xs i x none_empty ready.none_empty;
  open_none = holds_after (λ (run : List Pair). run ≡ []) open_run xs i x none ready.open_none;
}

-- of no index anything yet
pub reached_none : (made : ℕ → List (List Pair) → List Pair → List (List Pair) → List Pair → Type 0) (old : Holdings) → Reached made 0 old old
reached_none made old = record {
  done = λ i lt. absurd (omega (arith, lt));
  same_runs = λ i le. refl;
  same_begun = λ i le. refl;
}

-- of one index more
pub reached_more : (made : ℕ → List (List Pair) → List Pair → List (List Pair) → List Pair → Type 0) (count : ℕ) (old : Holdings)
    (runs : List (List (List Pair))) (begun : List (List Pair))
    → Reached made count old (record { runs = runs; begun = begun }) → count < length runs → count < length begun → (r : List (List Pair)) (b : List Pair)
    → made count (get_or runs count []) (get_or begun count []) r b
    → Reached made (count + 1) old (record { runs = set runs count r; begun = set begun count b })
reached_more made count old runs begun was in-runs in-begun r b here =
    let new-runs : get_or (set runs count r) count [] ≡ r = get_or-set_same runs count r [] in-runs in
    let new-begun : get_or (set begun count b) count [] ≡ b = get_or-set_same begun count b [] in-begun in
    let after : made count (get_or old.runs count []) (get_or old.begun count []) (get_or (set runs count r) count []) (get_or (set begun count b) count []) =
    rw (new-runs, new-begun, ← was.same_runs count (omega arith), ← was.same_begun count (omega arith)) here in
    record {
      done = λ i lt.
          elim (cases_eq i count) [
            | inl e ↦
                let At : ℕ → Type 0 =
                λ i. made i (get_or old.runs i []) (get_or old.begun i []) (get_or (set runs count r) i []) (get_or (set begun count b) i []) in
                subst At (sym e) after
            | inr ne ↦
                rw (get_or-set_other runs count i r [] ne, get_or-set_other begun count i b [] ne) (was.done i (omega (arith, lt, ne)))
          ];
      same_runs = λ i le.
          let other : i ≢ count = omega (arith, le) in
          get_or-set_other runs count i r [] other ∙ was.same_runs i (omega (arith, le));
      same_begun = λ i le.
          let other : i ≢ count = omega (arith, le) in
          get_or-set_other begun count i b [] other ∙ was.same_begun i (omega (arith, le));
    }
