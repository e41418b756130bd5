-- Which transactions are open once one has ended, was marked or was begun.
use Rattle.std.proofs.Common.{◌≡◌, ◌≢◌, inl, inr, ℕ, suc, ◌<◌, Bool, true, false, List, [], ◌∷◌, ◌++◌, length, get_or, arith, Some, None, refl, sym, ap, ◌∙◌}
use Rattle.std.proofs.Math.Bool.{or-false}
use Rattle.std.specs.Prelude.{◌||◌, ◌==◌, if◌then◌else◌, map}
use Rattle.std.proofs.lemmas.Bool.{cases_Bool, cases_eq, false≢true, eqb-true, ne_eqb}
use Rattle.std.proofs.lemmas.List.Folds.{list_any-append}
use Rattle.keybytes.specs.declared.fault.Fault.TheVariants.{NoSuchTxn, TxnEnding}
use Rattle.heap_table.specs.declared.open_txn.OpenTxn.{OpenTxn}
use Rattle.heap_table.specs.HeapState.{HeapState, is_open, is_ending, txn_refusal, without, mark, still_open}

pub open_without_self : (txn : ℕ) (active : List OpenTxn) → is_open (without txn active) txn ≡ false
open_without_self txn [] = refl
open_without_self txn (t ∷ ts) = elim (cases_Bool (t.txn == txn)) [
  | inl hit ↦ rw hit (open_without_self txn ts)
  | inr miss ↦ rw (miss, miss) (open_without_self txn ts)
]

pub open_without_other : (txn other : ℕ) (active : List OpenTxn) → other ≢ txn → is_open (without txn active) other ≡ is_open active other
open_without_other txn other [] differs = refl
open_without_other txn other (t ∷ ts) differs = elim (cases_Bool (t.txn == txn)) [
  | inl hit ↦
      let apart : (t.txn == other) ≡ false = ne_eqb t.txn other (λ e. differs (sym e ∙ eqb-true t.txn txn hit)) in
      rw (hit, apart) (open_without_other txn other ts differs)
  | inr miss ↦ rw miss (ap (λ (b : Bool). (t.txn == other) || b) (open_without_other txn other ts differs))
]

-- the end of one opens nobody
pub without_fewer : (txn other : ℕ) (active : List OpenTxn) → is_open (without txn active) other ≡ true → is_open active other ≡ true
without_fewer txn other active e = elim (cases_eq other txn) [
  | inl same ↦ absurd (false≢true (sym (ap (is_open (without txn active)) same ∙ open_without_self txn active) ∙ e))
  | inr differs ↦ sym (open_without_other txn other active differs) ∙ e
]

mark_txn : (txn : ℕ) (t : OpenTxn) → (mark txn t).txn ≡ t.txn
mark_txn txn t = elim (cases_Bool (t.txn == txn)) [
  | inl hit ↦ rw hit refl
  | inr miss ↦ rw miss refl
]

pub open_marked : (txn other : ℕ) (active : List OpenTxn) → is_open (map (mark txn) active) other ≡ is_open active other
open_marked txn other [] = refl
open_marked txn other (t ∷ ts) =
    ap (λ (n : ℕ). (n == other) || is_open (map (mark txn) ts) other) (mark_txn txn t)
    ∙ ap (λ (b : Bool). (t.txn == other) || b) (open_marked txn other ts)

pub open_begun : (txn other : ℕ) (active : List OpenTxn)
    → is_open (active ++ record { txn = txn; ending = false } ∷ []) other ≡ (is_open active other || (txn == other))
open_begun txn other active =
    list_any-append (λ (t : OpenTxn). t.txn == other) active (record { txn = txn; ending = false } ∷ [])
    ∙ ap (λ (b : Bool). is_open active other || b) (or-false (txn == other))

pub open_still_other : (txn other left : ℕ) (active : List OpenTxn) → other ≢ txn → is_open (still_open txn left active) other ≡ is_open active other
open_still_other txn other left active differs = elim (cases_Bool (left == 0)) [
  | inl ended ↦ rw ended (open_without_other txn other active differs)
  | inr more ↦ rw more (open_marked txn other active)
]

-- a transaction that may write is open
pub open_accepted : (s : HeapState) (txn : ℕ) → txn_refusal s txn ≡ None → is_open s.active txn ≡ true
open_accepted s txn e = elim (cases_Bool (is_open s.active txn)) [
  | inl is ↦ is
  | inr closed ↦ absurd (refused (sym (ap (λ (b : Bool). if b then (if is_ending s.active txn then Some TxnEnding else None) else Some NoSuchTxn) closed) ∙ e))
] where
  refused : Some NoSuchTxn ≡ None → ⊥
  refused f = cc

-- a list that has what the function gives at each place is the list of what it gives
pub map_at : {X : Type 0} (f : X → X) (xs ys : List X) → length ys ≡ length xs → ((k : ℕ) (d : X) → k < length xs → get_or ys k d ≡ f (get_or xs k d))
    → ys ≡ map f xs
map_at f [] [] e h = refl
map_at f [] (y ∷ ys) e h = absurd (omega (arith, e))
map_at f (x ∷ xs) [] e h = absurd (omega (arith, e))
map_at f (x ∷ xs) (y ∷ ys) e h =
    let head : y ≡ f x = h 0 x (omega arith) in
    let tail : ys ≡ map f xs = map_at f xs ys (omega (arith, e)) (λ k d l. h (suc k) d (omega arith)) in
    rw (head, tail) refl

-- an undo step opens nobody
pub still_fewer : (txn other left : ℕ) (active : List OpenTxn) → is_open active txn ≡ true → is_open (still_open txn left active) other ≡ true
    → is_open active other ≡ true
still_fewer txn other left active opened e = elim (cases_eq other txn) [
  | inl same ↦ ap (is_open active) same ∙ opened
  | inr differs ↦ sym (open_still_other txn other left active differs) ∙ e
]
