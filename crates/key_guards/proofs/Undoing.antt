-- The guards by transaction follow the undo of a newest standing write.
use Rattle.std.proofs.Common.{◌≡◌, ◌≢◌, ℕ, suc, ◌+◌, ◌<◌, ◌≤◌, Bool, true, false, List, [], ◌∷◌, length, get_or, Some, refl, sym, ap, ◌∙◌, arith, inl, inr}
use Rattle.std.specs.Prelude.{◌&&◌, ◌||◌, not, ◌==◌}
use Rattle.std.specs.List.{All}
use Rattle.std.specs.Str.{bytes_eq}
use Rattle.std.proofs.lemmas.Bool.{cases_Bool, cases_lt, false≢true, eqb-true, eq-eqb, ne_eqb}
use Rattle.std.proofs.lemmas.List.Elements.{All-head, All-tail, All-cons, All-nil}
use Rattle.std.proofs.lemmas.List.Folds.{list_any_at}
use Rattle.std.proofs.lemmas.Slice.Eq.{bytes_eq-Decides}
use Rattle.keybytes.specs.Keys.{KeySpecValue}
use Rattle.heap_log.specs.declared.record.LogRec.{LogRec}
use Rattle.heap_log.specs.declared.record.LogRec.TheVariants.{Undo}
use Rattle.heap_log.specs.Standing.{record_at, stands_of, newest_standing, txn_of}
use Rattle.heap_log.proofs.Last.{IsLast, last_below_some}
use Rattle.heap_log.proofs.Numbers.{newest_standing-of}
use Rattle.heap_log.proofs.Records.{txn_of-write}
use Rattle.key_guards.specs.declared.taken.Taken.{Taken}
use Rattle.key_guards.specs.TxnGuards.{TxnValue, without_top}
use Rattle.key_guards.specs.GuardLists.{is_taken, is_listed, Ascends, IsTakenIn, AreTakenIn, AreGuards, IsUndone, AreUndone}
use Rattle.key_guards.specs.GuardSteps.{AddsToGuards}
use Rattle.key_guards.specs.KeyRefusals.{took_key}
use Rattle.key_guards.proofs.Logging.{Logged}
use Rattle.key_guards.proofs.GuardLists.{all_then}
use Rattle.key_guards.proofs.Refusals.{took_stands}

-- no write but the last one is of that number
abbrev pub IsTopOnly : ℕ → List Taken → Type 0
IsTopOnly n [] = Unit {0}
IsTopOnly n (t ∷ []) = Unit {0}
IsTopOnly n (t ∷ u ∷ more) = (t.number ≢ n) × IsTopOnly n (u ∷ more)

pub top_only_le : (n : ℕ) (ts : List Taken) → Ascends ts → All (λ (t : Taken). t.number ≤ n) ts → IsTopOnly n ts
top_only_le n [] h each = tt
top_only_le n (t ∷ []) h each = tt
top_only_le n (t ∷ u ∷ more) h each =
    let rest : All (λ (x : Taken). x.number ≤ n) (u ∷ more) = All-tail (λ (x : Taken). x.number ≤ n) t (u ∷ more) each in
    let next : u.number ≤ n = All-head (λ (x : Taken). x.number ≤ n) u more rest in
    ((λ is. omega (arith, h.0, next, is)), top_only_le n (u ∷ more) h.1 rest)

pub top_only_ne : (n : ℕ) (ts : List Taken) → All (λ (t : Taken). t.number ≢ n) ts → IsTopOnly n ts
top_only_ne n [] each = tt
top_only_ne n (t ∷ []) each = tt
top_only_ne n (t ∷ u ∷ more) each =
    (All-head (λ (x : Taken). x.number ≢ n) t (u ∷ more) each, top_only_ne n (u ∷ more) (All-tail (λ (x : Taken). x.number ≢ n) t (u ∷ more) each))

pub ascends_without : (n : ℕ) (ts : List Taken) → Ascends ts → Ascends (without_top n ts)
ascends_without n [] h = tt
ascends_without n (t ∷ []) h = elim (cases_Bool (t.number == n)) [
  | inl is ↦ rw is tt
  | inr other ↦ rw other tt
]
ascends_without n (t ∷ u ∷ []) h = elim (cases_Bool (u.number == n)) [
  | inl is ↦ rw is tt
  | inr other ↦ rw other h
]
ascends_without n (t ∷ u ∷ v ∷ more) h = (h.0, ascends_without n (u ∷ v ∷ more) h.1)

pub all_without : (P : Taken → Type 0) (n : ℕ) (ts : List Taken) → All P ts → All P (without_top n ts)
all_without P n [] each = each
all_without P n (t ∷ []) each = elim (cases_Bool (t.number == n)) [
  | inl is ↦ rw is (All-nil P)
  | inr other ↦ rw other each
]
all_without P n (t ∷ u ∷ more) each = All-cons P t (without_top n (u ∷ more)) (All-head P t (u ∷ more) each) (all_without P n (u ∷ more) (All-tail P t (u ∷ more) each))

gone : (n m : ℕ) (t : Taken) (key : List ℕ) → t.number ≡ n → (not (n == m) && (((t.number == m) && bytes_eq t.key key) || false)) ≡ false
gone n m t key is = at (n == m) (t.number == m) (bytes_eq t.key key) (ap (λ k. k == m) is)
  where
    at : (b c k : Bool) → c ≡ b → (not b && ((c && k) || false)) ≡ false
    at true c k e = refl
    at false c k e = rw e refl

kept : (n m : ℕ) (t : Taken) (key : List ℕ) (rest after : Bool) → t.number ≢ n → after ≡ (not (n == m) && rest)
    → (((t.number == m) && bytes_eq t.key key) || after) ≡ (not (n == m) && (((t.number == m) && bytes_eq t.key key) || rest))
kept n m t key rest after ne e = rw e (elim (cases_Bool (n == m)) [
  | inl is ↦ rw (is, ne_eqb t.number m (λ same. ne (same ∙ sym (eqb-true n m is)))) refl
  | inr other ↦ rw other refl
])

-- the write that is undone took nothing any more
pub taken_without : (n m : ℕ) (key : List ℕ) (ts : List Taken) → IsTopOnly n ts → is_taken key m (without_top n ts) ≡ (not (n == m) && is_taken key m ts)
taken_without n m key [] h = none (n == m)
  where
    none : (b : Bool) → false ≡ (not b && false)
    none true = refl
    none false = refl
taken_without n m key (t ∷ []) h = elim (cases_Bool (t.number == n)) [
  | inl is ↦ rw is (sym (gone n m t key (eqb-true t.number n is)))
  | inr other ↦ rw other (kept n m t key false false (λ same. false≢true (sym other ∙ eq-eqb t.number n same)) (none (n == m)))
] where
  none : (b : Bool) → false ≡ (not b && false)
  none true = refl
  none false = refl
taken_without n m key (t ∷ u ∷ more) h = kept n m t key (is_taken key m (u ∷ more)) (is_taken key m (without_top n (u ∷ more))) h.0 (taken_without n m key (u ∷ more) h.1)

-- so it is of all transactions' lists
listed_undone : (n m : ℕ) (key : List ℕ) (old new : List TxnValue) → AreUndone n old new → All (λ (u : TxnValue). IsTopOnly n u.taken) old
    → is_listed new key m ≡ (not (n == m) && is_listed old key m)
listed_undone n m key [] [] h tops = none (n == m)
  where
    none : (b : Bool) → false ≡ (not b && false)
    none true = refl
    none false = refl
listed_undone n m key [] (u ∷ us) h tops = absurd (let count : suc (length us) ≡ 0 = h.count in omega (arith, count))
listed_undone n m key (t ∷ ts) [] h tops = absurd (let count : 0 ≡ suc (length ts) = h.count in omega (arith, count))
listed_undone n m key (t ∷ ts) (u ∷ us) h tops =
    ap (λ b. b || is_listed us key m) (ap (is_taken key m) first.taken ∙ taken_without n m key t.taken (All-head (λ (x : TxnValue). IsTopOnly n x.taken) t ts tops))
    ∙ ap (λ b. (not (n == m) && is_taken key m t.taken) || b) (listed_undone n m key ts us rest (All-tail (λ (x : TxnValue). IsTopOnly n x.taken) t ts tops))
    ∙ either (n == m) (is_taken key m t.taken) (is_listed ts key m)
  where
    first : IsUndone n t u
    first = h.each 0 t (omega arith)

    rest : AreUndone n ts us
    rest = record {
      count = (let count : suc (length us) ≡ suc (length ts) = h.count in omega (arith, count));
      each = λ j d l. h.each (suc j) d (omega (arith, l));
    }

    either : (b a c : Bool) → ((not b && a) || (not b && c)) ≡ (not b && (a || c))
    either true a c = refl
    either false a c = refl

-- a key is taken by a standing write
taken_stands : (spec : KeySpecValue) (log : List LogRec) (txns : List TxnValue) (at : ℕ) (d : TxnValue) (i : ℕ) (e : Taken) → AreGuards spec log txns
    → at < length txns → i < length (get_or txns at d).taken → stands_of log (get_or txns at d).txn (get_or (get_or txns at d).taken i e).number ≡ true
taken_stands spec log txns at d i e h l within =
    let u : TxnValue = get_or txns at d in
    let t : Taken = get_or u.taken i e in
    let in_log : IsTakenIn log u.txn t = (h.each at d l).each i e within in
    let hit : ((t.number == t.number) && bytes_eq t.key t.key) ≡ true = rw (eq-eqb t.number t.number refl, (bytes_eq-Decides t.key t.key).1 refl) refl in
    let here : is_taken t.key t.number u.taken ≡ true = list_any_at (λ x. (x.number == t.number) && bytes_eq x.key t.key) u.taken i e within hit in
    let listed : is_listed txns t.key t.number ≡ true = list_any_at (λ x. is_taken t.key t.number x.taken) txns at d l here in
    let took : took_key spec log t.key t.number ≡ true = sym (h.listed t.key t.number) ∙ listed in
    ap (λ txn. stands_of log txn t.number) (sym in_log.by) ∙ took_stands spec log t.key t.number took

-- none comes after the newest standing write of its transaction
taken_until : (spec : KeySpecValue) (log : List LogRec) (txn n : ℕ) (txns : List TxnValue) (at : ℕ) (d : TxnValue) → newest_standing log txn ≡ Some n
    → AreGuards spec log txns → at < length txns → (get_or txns at d).txn ≡ txn → All (λ (t : Taken). t.number ≤ n) (get_or txns at d).taken
taken_until spec log txn n txns at d newest h l own i e within = elim (cases_lt n number) [
  | inr low ↦ low
  | inl above ↦
      let last : IsLast (stands_of log txn) (length log + 1) n = last_below_some (stands_of log txn) (length log + 1) n newest in
      let in_log = (h.each at d l).each i e within in
      let stands : stands_of log txn number ≡ true = ap (λ u. stands_of log u number) (sym own) ∙ taken_stands spec log txns at d i e h l within in
      absurd (false≢true (sym (last.after number above (omega (arith, in_log.within))) ∙ stands))
] where
  number : ℕ
  number = (get_or (get_or txns at d).taken i e).number

-- and that one took no other transaction's
taken_apart : (spec : KeySpecValue) (log : List LogRec) (txn n : ℕ) (u : TxnValue) → newest_standing log txn ≡ Some n → AreTakenIn log u
    → (u.txn == txn) ≡ false → All (λ (t : Taken). t.number ≢ n) u.taken
taken_apart spec log txn n u newest h other i e within is =
    let in_log = h.each i e within in
    let writer : txn_of (record_at log n) ≡ txn = txn_of-write txn (record_at log n) (newest_standing-of log txn n newest) in
    false≢true (sym other ∙ eq-eqb u.txn txn (sym in_log.by ∙ ap (λ k. txn_of (record_at log k)) is ∙ writer))

-- so a transaction's newest standing write is of the last key in its list, or of none in any
newest_on_top : (spec : KeySpecValue) (log : List LogRec) (txn n : ℕ) (txns : List TxnValue) → newest_standing log txn ≡ Some n → AreGuards spec log txns
    → All (λ (u : TxnValue). IsTopOnly n u.taken) txns
newest_on_top spec log txn n txns newest h at d l = elim (cases_Bool (u.txn == txn)) [
  | inl own ↦ top_only_le n u.taken (h.each at d l).ascend (taken_until spec log txn n txns at d newest h l (eqb-true u.txn txn own))
  | inr other ↦ top_only_ne n u.taken (taken_apart spec log txn n u newest (h.each at d l) other)
] where
  u : TxnValue
  u = get_or txns at d

undone_in : (log : List LogRec) (n : ℕ) (t u : TxnValue) → IsUndone n t u → AreTakenIn log t → AreTakenIn log u
undone_in log n t u is h = record {
  each = rw (is.txn, is.taken) (all_without (IsTakenIn log t.txn) n t.taken h.each);
  ascend = rw is.taken (ascends_without n t.taken h.ascend);
}

-- the guards by transaction follow the undo
pub list_undo :
    (spec : KeySpecValue) (old new : List LogRec) (txn n : ℕ) (txns after : List TxnValue) → Logged old (Undo txn n) new
    → AddsToGuards spec old (Undo txn n) new → newest_standing old txn ≡ Some n → AreUndone n txns after → AreGuards spec old txns
    → AreGuards spec new after
list_undo spec old new txn n txns after added adds newest is h = record {
  each = λ at d l.
      let within : at < length txns = omega (arith, l, is.count) in
      let grown : AreTakenIn new (get_or txns at d) = all_then old new (Undo txn n) (get_or txns at d) added (h.each at d within) in
      undone_in new n (get_or txns at d) (get_or after at d) (is.each at d within) grown;
  listed = λ key m.
      listed_undone n m key txns after is (newest_on_top spec old txn n txns newest h) ∙ ap (λ b. not (n == m) && b) (h.listed key m)
      ∙ sym (adds.took key m);
}
