-- The workers of a build get their rings, makers and spools, one after another.
use Rattle.std.proofs.Common.{◌≡◌, ℕ, zero, suc, ◌⊎◌, ◌+◌, ◌*◌, ◌<◌, List, [], ◌∷◌, ◌++◌, length, map, take, drop, get_or, Some, false, refl, sym, ap, ap₂, ◌∙◌, arith}
use Rattle.std.proofs.Common.{append_assoc, append-nil, inl, inr}
use Rattle.std.specs.List.{slice_get}
use Rattle.std.proofs.Math.Nat.{suc-mul}
use Rattle.std.proofs.lemmas.List.{drop_more, length-drop, map-append, take-append-drop, take_more}
use Rattle.std.proofs.lemmas.Option.{same_Some}
use Rattle.keybytes.specs.Keys.{KeySpecValue}
use Rattle.page_workers.specs.SpoolValue.{SpoolValue}
use Rattle.page_workers.specs.WorkerValue.{WorkerValue}
use Rattle.building.specs.Keeping.{AreWorkers, IsWorkerAt}
use Rattle.building.specs.Holding.{workers_spools}

-- the next one is taken from a list, of which n were taken before
pub one_taken :
    {X : Type 0} (xs rest : List X) (n : ℕ) (x : X) → drop n xs ≡ x ∷ rest → (take (n + 1) xs ≡ take n xs ++ x ∷ []) × (drop (n + 1) xs ≡ rest)
one_taken xs rest n x is =
    let less : n < length xs = omega (arith, length-drop n xs, ap length is) in
    let all = drop_more xs n x less in
    let here : get_or xs n x ≡ x = cc in
    let left : drop (n + 1) xs ≡ rest = cc in
    (take_more xs n x less ∙ ap (λ y. take n xs ++ y ∷ []) here, left)

-- one worker more has the next spools
pub more_lent :
    {S : Type 0} (value : S → SpoolValue) (workers : List WorkerValue) (worker : WorkerValue) (own rest left : List S) (n : ℕ) → worker.spools ≡ map value own
    → own ≡ take n rest → left ≡ drop n rest → workers_spools (workers ++ worker ∷ []) ++ map value left ≡ workers_spools workers ++ map value rest
more_lent value [] worker own rest left n is first others =
    ap (λ (l : List SpoolValue). l ++ map value left) (append-nil worker.spools ∙ is)
    ∙ sym (map-append value own left)
    ∙ ap (map value) (ap₂ ◌++◌ first others ∙ take-append-drop n rest)
more_lent value (w ∷ ws) worker own rest left n is first others =
    append_assoc w.spools (workers_spools (ws ++ worker ∷ [])) (map value left)
    ∙ ap (λ (l : List SpoolValue). w.spools ++ l) (more_lent value ws worker own rest left n is first others)
    ∙ sym (append_assoc w.spools (workers_spools ws) (map value rest))

-- what each was given, where one goes over to those that were made
pub one_made :
    {X Y Z : Type 0} (f : X → Z) (g : Y → Z) (xs : List X) (x : X) (y : Y) (ys : List Y) → f x ≡ g y
    → map f (xs ++ x ∷ []) ++ map g ys ≡ map f xs ++ map g (y ∷ ys)
one_made f g [] x y ys same = ap (λ z. z ∷ map g ys) same
one_made f g (v ∷ vs) x y ys same = ap (λ zs. f v ∷ zs) (one_made f g vs x y ys same)

-- where each takes n, enough are left for the others
pub enough_left : {X : Type 0} (n m : ℕ) (xs : List X) → length xs ≡ suc m * n → length (drop n xs) ≡ m * n
enough_left n m xs many = let e = suc-mul m n in omega (arith, length-drop n xs, many, e)

-- what stands in a place of a list with one element more
at_more :
    {X : Type 0} (xs : List X) (y : X) (k : ℕ) (x : X) → slice_get (xs ++ y ∷ []) k ≡ Some x → (slice_get xs k ≡ Some x) ⊎ ((k ≡ length xs) × (x ≡ y))
at_more [] y zero x at = inr (refl, sym (same_Some y x at))
at_more [] y (suc k) x at = absurd (cc)
at_more (z ∷ zs) y zero x at = inl at
at_more (z ∷ zs) y (suc k) x at = elim (at_more zs y k x at) [
  | inl before ↦ inl before
  | inr last ↦ inr (ap suc last.0, last.1)
]

-- one worker more, at the next place
pub workers_more :
    (build : ℕ) (specs : List KeySpecValue) (workers : List WorkerValue) (worker : WorkerValue) → AreWorkers build specs false workers
    → IsWorkerAt build specs false (length workers) worker → AreWorkers build specs false (workers ++ worker ∷ [])
workers_more build specs workers worker before next k it at = elim (at_more workers worker k it at) [
  | inl there ↦ before k it there
  | inr last ↦ rw (last.0, last.1) next
]
