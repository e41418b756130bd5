-- The guards by transaction follow the log.
use Rattle.std.proofs.Common.{◌≡◌, ◌≢◌, ℕ, zero, suc, ◌+◌, ◌<◌, Bool, true, false, List, [], ◌∷◌, ◌++◌, length, get_or, Option, Some, None, refl, sym, ap, subst, ◌∙◌, arith, inl, inr, length-append, length-set}
use Rattle.std.specs.Prelude.{◌&&◌, ◌||◌, not, ◌==◌, filter}
use Rattle.std.specs.List.{list_any, find, All, position, position_or_len}
use Rattle.std.specs.Option.{option_map}
use Rattle.std.proofs.Math.ListN.{set, get_or-append}
use Rattle.std.proofs.Math.Seq.{get_or-append_seam}
use Rattle.std.proofs.lemmas.List.Sums.{position_or_len_is, fails_before_first}
use Rattle.std.specs.Str.{bytes_eq}
use Rattle.std.proofs.lemmas.Slice.Eq.{bytes_eq-Decides}
use Rattle.std.proofs.lemmas.Option.{same_Some}
use Rattle.std.proofs.lemmas.List.Elements.{All-head, All-tail, All-weaker, All-append, All-cons, All-nil, All-filter, All-set}
use Rattle.std.proofs.lemmas.List.Folds.{list_any-append, position_or_len-set}
use Rattle.std.proofs.lemmas.List.Quantifiers.{position-Some}
use Rattle.std.proofs.lemmas.Bool.{cases_eq, cases_lt, lt-ltb, cases_Bool, cond-true, cond-false, false≢true, and_parts, and_from, or_cases, or_left, or_right, not-true, not_from_false, eqb-true, eq-eqb, ne_eqb}
use Rattle.keybytes.specs.Keys.{KeySpecValue, key_there}
use Rattle.keybytes.specs.declared.cell.Cell.{Cell}
use Rattle.keybytes.specs.declared.rid.Rid.{Rid}
use Rattle.heap_log.specs.declared.outcome.Outcome.{Outcome}
use Rattle.heap_log.specs.declared.record.LogRec.{LogRec}
use Rattle.heap_log.specs.declared.record.LogRec.TheVariants.{Write, Commit, Switch}
use Rattle.heap_log.specs.Standing.{record_at, live_at, txn_of}
use Rattle.heap_log.proofs.Records.{or_no}
use Rattle.key_guards.specs.declared.taken.Taken.{Taken}
use Rattle.key_guards.specs.TxnGuards.{TxnValue, has_taken, is_nil}
use Rattle.key_guards.specs.KeyRefusals.{took_key, other_guard}
use Rattle.key_guards.specs.GuardLists.{is_taken, is_listed, is_other, other_in, Ascends, IsTakenIn, AreTakenIn, AreGuards, key_left, key_taken}
use Rattle.key_guards.specs.UniqueKeys.{is_its_key, has_key, KeysStayUnique, GuardsKey, WritesAreHeld}
use Rattle.heap_table.proofs.Small.{some_or_none}
use Rattle.key_guards.proofs.Refusals.{guards_by, took_by, IsOtherGuard, other_guard_is, other_guard_found, find_passes}
use Rattle.key_guards.specs.GuardSteps.{AddsToGuards}
use Rattle.key_guards.proofs.GuardChanges.{took_past}
use Rattle.key_guards.proofs.Logging.{Logged}

-- a key stays taken in a longer log
taken_then : (old new : List LogRec) (rec : LogRec) (txn : ℕ) → Logged old rec new → (t : Taken) → IsTakenIn old txn t → IsTakenIn new txn t
taken_then old new rec txn added t h = record {
  within = omega (arith, h.within, ap length added.is, length-append old (rec ∷ []));
  by = ap txn_of (added.numbers.earlier t.number h.within) ∙ h.by;
}

pub all_then : (old new : List LogRec) (rec : LogRec) (t : TxnValue) → Logged old rec new → AreTakenIn old t → AreTakenIn new t
all_then old new rec t added h = record {
  each = All-weaker (IsTakenIn old t.txn) (IsTakenIn new t.txn) (taken_then old new rec t.txn added) t.taken h.each;
  ascend = h.ascend;
}

-- a key that is taken is so by a write of the transaction
taken_by : (log : List LogRec) (txn : ℕ) (key : List ℕ) (n : ℕ) (taken : List Taken) → All (IsTakenIn log txn) taken → is_taken key n taken ≡ true
    → txn_of (record_at log n) ≡ txn
taken_by log txn key n [] each is = absurd (false≢true is)
taken_by log txn key n (t ∷ ts) each is = elim (or_cases ((t.number == n) && bytes_eq t.key key) (is_taken key n ts) is) [
  | inr rest ↦ taken_by log txn key n ts (All-tail (IsTakenIn log txn) t ts each) rest
  | inl here ↦
      let same : t.number ≡ n = eqb-true t.number n (and_parts (t.number == n) (bytes_eq t.key key) here).0 in
      let in_log : IsTakenIn log txn t = All-head (IsTakenIn log txn) t ts each in
      ap (λ k. txn_of (record_at log k)) (sym same) ∙ in_log.by
]

not_by : (log : List LogRec) (t : TxnValue) (key : List ℕ) (n : ℕ) → AreTakenIn log t → t.txn ≢ txn_of (record_at log n) → is_taken key n t.taken ≡ false
not_by log t key n h other = elim (cases_Bool (is_taken key n t.taken)) [
  | inr none ↦ none
  | inl is ↦ absurd (other (sym (taken_by log t.txn key n t.taken h.each is)))
]

-- without a transaction's, the others' are listed
listed_without_txn : (log : List LogRec) (txn : ℕ) (txns : List TxnValue) (key : List ℕ) (n : ℕ) → All (AreTakenIn log) txns
    → is_listed (filter (λ t. not (t.txn == txn)) txns) key n ≡ (not (txn == txn_of (record_at log n)) && is_listed txns key n)
listed_without_txn log txn [] key n each = none (txn == txn_of (record_at log n))
  where
    none : (b : Bool) → false ≡ (not b && false)
    none true = refl
    none false = refl
listed_without_txn log txn (t ∷ ts) key n each = elim (cases_Bool (t.txn == txn)) [
  | inl is ↦ rw is (listed_without_txn log txn ts key n rest ∙ hit (txn == txn_of (record_at log n)) (is_taken key n t.taken) (is_listed ts key n)
      (λ e. not_by log t key n first (λ same. false≢true (sym e ∙ eq-eqb txn (txn_of (record_at log n)) (sym (eqb-true t.txn txn is) ∙ same)))))
  | inr other ↦ rw other (ap (λ b. is_taken key n t.taken || b) (listed_without_txn log txn ts key n rest)
      ∙ miss (txn == txn_of (record_at log n)) (is_taken key n t.taken) (is_listed ts key n)
      (λ e. not_by log t key n first (λ same. false≢true (sym other ∙ eq-eqb t.txn txn (same ∙ sym (eqb-true txn (txn_of (record_at log n)) e))))))
] where
  first : AreTakenIn log t
  first = All-head (AreTakenIn log) t ts each

  rest : All (AreTakenIn log) ts
  rest = All-tail (AreTakenIn log) t ts each

  hit : (b a l : Bool) → (b ≡ false → a ≡ false) → (not b && l) ≡ (not b && (a || l))
  hit true a l h = refl
  hit false a l h = rw (h refl) refl

  miss : (b a l : Bool) → (b ≡ true → a ≡ false) → (a || (not b && l)) ≡ (not b && (a || l))
  miss true a l h = rw (h refl) refl
  miss false a l h = refl

pub list_commit :
    (spec : KeySpecValue) (old new : List LogRec) (txn : ℕ) (txns : List TxnValue) → Logged old (Commit txn) new → AddsToGuards spec old (Commit txn) new
    → AreGuards spec old txns → AreGuards spec new (filter (λ t. not (t.txn == txn)) txns)
list_commit spec old new txn txns added adds h = record {
  each = All-filter (λ t. not (t.txn == txn)) (AreTakenIn new) txns (All-weaker (AreTakenIn old) (AreTakenIn new) (λ t. all_then old new (Commit txn) t added) txns h.each);
  listed = λ key n. listed_without_txn old txn txns key n h.each ∙ ap (λ b. not (txn == txn_of (record_at old n)) && b) (h.listed key n) ∙ sym (adds.took key n);
}

pub list_switch :
    (spec : KeySpecValue) (old new : List LogRec) (verdicts : List Outcome) (txns : List TxnValue) → Logged old (Switch verdicts) new
    → AddsToGuards spec old (Switch verdicts) new → AreGuards spec old txns → AreGuards spec new txns
list_switch spec old new verdicts txns added adds h = record {
  each = All-weaker (AreTakenIn old) (AreTakenIn new) (λ t. all_then old new (Switch verdicts) t added) txns h.each;
  listed = λ key n. h.listed key n ∙ sym (adds.took key n);
}

-- transactions without keys may go
without_empty : (txns : List TxnValue) (key : List ℕ) (n : ℕ) → is_listed (filter (λ t. not (is_nil t.taken)) txns) key n ≡ is_listed txns key n
without_empty [] key n = refl
without_empty (t ∷ ts) key n = at t.taken refl (without_empty ts key n)
  where
    at : (taken : List Taken) → t.taken ≡ taken → is_listed (filter (λ u. not (is_nil u.taken)) ts) key n ≡ is_listed ts key n
        → is_listed (filter (λ u. not (is_nil u.taken)) (t ∷ ts)) key n ≡ is_listed (t ∷ ts) key n
    at [] e rest = rw e rest
    at (x ∷ xs) e rest = rw e (ap (λ b. is_taken key n (x ∷ xs) || b) rest)

pub empty_gone : (spec : KeySpecValue) (log : List LogRec) (txns : List TxnValue) → AreGuards spec log txns → AreGuards spec log (filter (λ t. not (is_nil t.taken)) txns)
empty_gone spec log txns h = record {
  each = All-filter (λ t. not (is_nil t.taken)) (AreTakenIn log) txns h.each;
  listed = λ key n. without_empty txns key n ∙ h.listed key n;
}

-- and one may come in
pub new_empty : (spec : KeySpecValue) (log : List LogRec) (txns : List TxnValue) (t : TxnValue) → t.taken ≡ [] → AreGuards spec log txns → AreGuards spec log (txns ++ t ∷ [])
new_empty spec log txns t empty h = record {
  each = All-append (AreTakenIn log) txns (t ∷ []) h.each (All-cons (AreTakenIn log) t [] (rw empty record { each = All-nil (IsTakenIn log t.txn); ascend = tt }) (All-nil (AreTakenIn log)));
  listed = λ key n. list_any-append (λ u. is_taken key n u.taken) txns (t ∷ []) ∙ ap (λ ts. is_listed txns key n || (is_taken key n ts || false)) empty ∙ or_no (is_listed txns key n) ∙ h.listed key n;
}

-- one transaction's keys change
listed_set : (txns : List TxnValue) (at : ℕ) (t d : TxnValue) (key : List ℕ) (n : ℕ) (extra : Bool) → at < length txns
    → is_taken key n t.taken ≡ (is_taken key n (get_or txns at d).taken || extra) → is_listed (set txns at t) key n ≡ (is_listed txns key n || extra)
listed_set [] at t d key n extra l is = absurd (omega arith)
listed_set (u ∷ us) zero t d key n extra l is = ap (λ b. b || is_listed us key n) is ∙ turned (is_taken key n u.taken) extra (is_listed us key n)
  where
    turned : (a b c : Bool) → ((a || b) || c) ≡ ((a || c) || b)
    turned true b c = refl
    turned false true true = refl
    turned false true false = refl
    turned false false true = refl
    turned false false false = refl
listed_set (u ∷ us) (suc at) t d key n extra l is = ap (λ b. is_taken key n u.taken || b) (listed_set us at t d key n extra (omega arith) is) ∙ turned (is_taken key n u.taken) (is_listed us key n) extra
  where
    turned : (a b c : Bool) → (a || (b || c)) ≡ ((a || b) || c)
    turned true b c = refl
    turned false b c = refl

same_taken : (log : List LogRec) (t u : TxnValue) → t.txn ≡ u.txn → t.taken ≡ u.taken → AreTakenIn log u → AreTakenIn log t
same_taken log t u by same h = record { each = rw (by, same) h.each; ascend = rw same h.ascend }

-- where its keys stay, all stays
pub same_set : (spec : KeySpecValue) (log : List LogRec) (txns : List TxnValue) (at : ℕ) (t d : TxnValue) → at < length txns
    → t.txn ≡ (get_or txns at d).txn → t.taken ≡ (get_or txns at d).taken → AreGuards spec log txns → AreGuards spec log (set txns at t)
same_set spec log txns at t d l by same h = record {
  each = All-set (AreTakenIn log) txns at t (same_taken log t (get_or txns at d) by same (h.each at d l)) h.each;
  listed = λ key n. listed_set txns at t d key n false l (ap (is_taken key n) same ∙ sym (or_no (is_taken key n (get_or txns at d).taken))) ∙ or_no (is_listed txns key n) ∙ h.listed key n;
}

-- a key that a write took is one that was taken, and the other way round
taken_has : (key : List ℕ) (n : ℕ) (taken : List Taken) → is_taken key n taken ≡ true → has_taken key taken ≡ true
taken_has key n [] is = absurd (false≢true is)
taken_has key n (t ∷ ts) is = elim (or_cases ((t.number == n) && bytes_eq t.key key) (is_taken key n ts) is) [
  | inl here ↦ or_left (bytes_eq t.key key) (has_taken key ts) (and_parts (t.number == n) (bytes_eq t.key key) here).1
  | inr rest ↦ or_right (bytes_eq t.key key) (has_taken key ts) (taken_has key n ts rest)
]

has_number : (key : List ℕ) (taken : List Taken) → has_taken key taken ≡ true → (n : ℕ) × (is_taken key n taken ≡ true)
has_number key [] is = absurd (false≢true is)
has_number key (t ∷ ts) is = elim (or_cases (bytes_eq t.key key) (has_taken key ts) is) [
  | inl here ↦ (t.number, or_left ((t.number == t.number) && bytes_eq t.key key) (is_taken key t.number ts) (and_from (t.number == t.number) (bytes_eq t.key key) (eq-eqb t.number t.number refl) here))
  | inr rest ↦ let found = has_number key ts rest in (found.0, or_right ((t.number == found.0) && bytes_eq t.key key) (is_taken key found.0 ts) found.1)
]

-- what is found is in the list
find_in : (p : TxnValue → Bool) (ts : List TxnValue) (t : TxnValue) → find p ts ≡ Some t → (q : TxnValue → Bool) → q t ≡ true → list_any q ts ≡ true
find_in p [] t e q hit = absurd (cc)
find_in p (x ∷ ts) t e q hit = elim (cases_Bool (p x)) [
  | inl is ↦
      let same : x ≡ t = same_Some x t (sym (cond-true (p x) (Some x) (find p ts) is) ∙ e) in
      or_left (q x) (list_any q ts) (ap q same ∙ hit)
  | inr miss ↦ or_right (q x) (list_any q ts) (find_in p ts t (sym (cond-false (p x) (Some x) (find p ts) miss) ∙ e) q hit)
]

find_holds : (p : TxnValue → Bool) (ts : List TxnValue) (t : TxnValue) → find p ts ≡ Some t → (P : TxnValue → Type 0) → All P ts → P t
find_holds p [] t e P each = absurd (cc)
find_holds p (x ∷ ts) t e P each = elim (cases_Bool (p x)) [
  | inl is ↦ subst P (same_Some x t (sym (cond-true (p x) (Some x) (find p ts) is) ∙ e)) (All-head P x ts each)
  | inr miss ↦ find_holds p ts t (sym (cond-false (p x) (Some x) (find p ts) miss) ∙ e) P (All-tail P x ts each)
]

-- where nothing is found, nothing passes
any_passes : (p : TxnValue → Bool) (ts : List TxnValue) → find p ts ≡ None → (q : TxnValue → Bool) → list_any q ts ≡ true → (P : TxnValue → Type 0)
    → All P ts → ((t : TxnValue) → P t → q t ≡ true → p t ≡ true) → ⊥
any_passes p [] none q any P each implied = false≢true any
any_passes p (t ∷ ts) none q any P each implied = elim (cases_Bool (p t)) [
  | inl hit ↦ some_none t (sym (cond-true (p t) (Some t) (find p ts) hit) ∙ none)
  | inr miss ↦ elim (or_cases (q t) (list_any q ts) any) [
    | inl here ↦ false≢true (sym miss ∙ implied t (All-head P t ts each) here)
    | inr rest ↦ any_passes p ts (sym (cond-false (p t) (Some t) (find p ts) miss) ∙ none) q rest P (All-tail P t ts each) implied
  ]
] where
  some_none : (x : TxnValue) → Some x ≡ None → ⊥
  some_none x f = cc

-- what is found in the list is the other guard
pub list_other :
    (spec : KeySpecValue) (log : List LogRec) (txns : List TxnValue) (txn : ℕ) (key : List ℕ) → KeysStayUnique spec log → WritesAreHeld log
    → AreGuards spec log txns → other_in txns txn key ≡ other_guard spec log txn key
list_other spec log txns txn key unique held h = at (find (is_other txn key) txns) refl
  where
    at : (o : Option TxnValue) → find (is_other txn key) txns ≡ o → option_map (λ t. t.txn) o ≡ other_guard spec log txn key
    at None none = elim (some_or_none (other_guard spec log txn key)) [
      | inl e ↦ sym e
      | inr some ↦
          let is : IsOtherGuard spec log txn key some.0 = other_guard_is spec log txn key some.0 some.1 in
          let took = took_by spec log some.0 key is.guards in
          let n : ℕ = is.guards.number in
          absurd (any_passes (is_other txn key) txns none (λ t. is_taken key n t.taken) (h.listed key n ∙ took.1) (AreTakenIn log) h.each
          (λ t in_log hit.
          let writer : t.txn ≡ some.0 = sym (taken_by log t.txn key n t.taken in_log.each hit) ∙ took.0 in
          and_from (not (t.txn == txn)) (has_taken key t.taken) (not_from_false (t.txn == txn) (ne_eqb t.txn txn (λ e. is.apart (sym writer ∙ e)))) (taken_has key n t.taken hit)))
    ]
    at (Some t) found =
        let parts = and_parts (not (t.txn == txn)) (has_taken key t.taken) (find_passes (is_other txn key) txns t found) in
        let in_log : AreTakenIn log t = find_holds (is_other txn key) txns t found (AreTakenIn log) h.each in
        let number = has_number key t.taken parts.1 in
        let took : took_key spec log key number.0 ≡ true =
        sym (h.listed key number.0) ∙ find_in (is_other txn key) txns t found (λ u. is_taken key number.0 u.taken) number.1 in
        let P : ℕ → Type 0 = λ u. GuardsKey spec log u key in
        let guards_it : GuardsKey spec log t.txn key = subst P (taken_by log t.txn key number.0 t.taken in_log.each number.1) (guards_by spec log key number.0 took) in
        sym (other_guard_found spec log txn key t.txn unique held (λ e. false≢true (sym (not-true (t.txn == txn) parts.0) ∙ eq-eqb t.txn txn e)) guards_it)

-- a transaction that is nowhere, and is put at the end, is there
nowhere : (txns : List TxnValue) (txn : ℕ) → position (λ u. u.txn == txn) txns ≡ None → All (λ (u : TxnValue). (u.txn == txn) ≡ false) txns
nowhere txns txn none at d l = elim (cases_lt (position_or_len p txns) (length txns)) [
  | inl within ↦ absurd (some_none (position_or_len p txns) (sym (rw (lt-ltb (position_or_len p txns) (length txns) within) refl) ∙ none))
  | inr past ↦ fails_before_first p txns at d (omega (arith, past, l))
] where
  p : TxnValue → Bool
  p = λ u. u.txn == txn

  some_none : (k : ℕ) → Some k ≡ None → ⊥
  some_none k f = cc

pub new_place : (txns kept : List TxnValue) (test : TxnValue → Bool) (txn : ℕ) (t : TxnValue) → position (λ u. u.txn == txn) txns ≡ None → t.txn ≡ txn
    → kept ≡ filter test txns → position (λ u. u.txn == txn) (kept ++ t ∷ []) ≡ Some (length kept)
new_place txns kept test txn t none is kept_is = rw (first, lt-ltb (length kept) (length (kept ++ t ∷ [])) within) refl
  where
    p : TxnValue → Bool
    p = λ u. u.txn == txn

    within : length kept < length (kept ++ t ∷ [])
    within = omega (arith, length-append kept (t ∷ []))

    not_kept : All (λ (u : TxnValue). p u ≡ false) kept
    not_kept = rw kept_is (All-filter test (λ (u : TxnValue). p u ≡ false) txns (nowhere txns txn none))

    first : position_or_len p (kept ++ t ∷ []) ≡ length kept
    first = position_or_len_is p (kept ++ t ∷ []) (length kept) t (omega (arith, within))
        (λ k l. ap p (get_or-append kept (t ∷ []) t k l) ∙ not_kept k t l)
        (λ l. ap p (get_or-append_seam kept t [] t) ∙ eq-eqb t.txn txn is)

-- the place of a transaction is the same after a change of its keys
pub place_set : (txns : List TxnValue) (txn at : ℕ) (t d : TxnValue) → position (λ u. u.txn == txn) txns ≡ Some at → t.txn ≡ (get_or txns at d).txn
    → position (λ u. u.txn == txn) (set txns at t) ≡ Some at
place_set txns txn at t d is same =
    let p : TxnValue → Bool = λ u. u.txn == txn in
    let first : position_or_len p (set txns at t) ≡ position_or_len p txns = position_or_len-set p txns at t d (ap (λ n. n == txn) same) in
    let count : length (set txns at t) ≡ length txns = length-set txns at t in
    rw (first, count) is

pub place_within : (txns : List TxnValue) (txn at : ℕ) (d : TxnValue) → position (λ u. u.txn == txn) txns ≡ Some at → at < length txns
place_within txns txn at d is = (position-Some (λ u. u.txn == txn) txns at d is).0

-- what a key leaves of the one before it
left_none : (old new : Option (List ℕ)) (key : List ℕ) → key_left old new ≡ None → (is_its_key key old && not (is_its_key key new)) ≡ false
left_none None new key e = refl
left_none (Some own) new key e = elim (cases_Bool (is_its_key own new)) [
  | inr lost ↦ absurd (some_none own (sym (cond-false (is_its_key own new) None (Some own) lost) ∙ e))
  | inl kept ↦ elim (cases_Bool (bytes_eq own key)) [
    | inr differs ↦ rw differs refl
    | inl is ↦
        let same : own ≡ key = (bytes_eq-Decides own key).0 is in
        let has : is_its_key key new ≡ true = ap (λ k. is_its_key k new) (sym same) ∙ kept in
        rw (is, has) refl
  ]
] where
  some_none : (k : List ℕ) → Some k ≡ None → ⊥
  some_none k f = cc

left_some : (old new : Option (List ℕ)) (key taken : List ℕ) → key_left old new ≡ Some taken → (is_its_key key old && not (is_its_key key new)) ≡ bytes_eq taken key
left_some None new key taken e = absurd (cc)
left_some (Some own) new key taken e = elim (cases_Bool (is_its_key own new)) [
  | inl kept ↦ absurd (none_some taken (sym (cond-true (is_its_key own new) None (Some own) kept) ∙ e))
  | inr lost ↦
      let is : own ≡ taken = same_Some own taken (sym (cond-false (is_its_key own new) None (Some own) lost) ∙ e) in
      elim (cases_Bool (bytes_eq own key)) [
        | inr differs ↦ rw differs (sym (ap (λ k. bytes_eq k key) (sym is) ∙ differs))
        | inl hit ↦
            let same : own ≡ key = (bytes_eq-Decides own key).0 hit in
            let has : is_its_key key new ≡ false = ap (λ k. is_its_key k new) (sym same) ∙ lost in
            rw (hit, has) (sym (ap (λ k. bytes_eq k key) (sym is) ∙ hit))
      ]
] where
  none_some : (k : List ℕ) → None ≡ Some k → ⊥
  none_some k f = cc

-- what a row takes from the one before it
taken_none : (spec : KeySpecValue) (was row : Option (List Cell)) (key : List ℕ) → key_taken spec was row ≡ None
    → (has_key spec key was && not (has_key spec key row)) ≡ false
taken_none spec was row = left_none (key_there spec was) (key_there spec row)

taken_some : (spec : KeySpecValue) (was row : Option (List Cell)) (key taken : List ℕ) → key_taken spec was row ≡ Some taken
    → (has_key spec key was && not (has_key spec key row)) ≡ bytes_eq taken key
taken_some spec was row = left_some (key_there spec was) (key_there spec row)

-- the key of a new write comes last
ascends_push : (log : List LogRec) (txn : ℕ) (ts : List Taken) (t : Taken) → Ascends ts → All (IsTakenIn log txn) ts → t.number ≡ length log + 1 → Ascends (ts ++ t ∷ [])
ascends_push log txn [] t h each is = tt
ascends_push log txn (a ∷ []) t h each is = (let in_log : IsTakenIn log txn a = All-head (IsTakenIn log txn) a [] each in omega (arith, in_log.within, is), tt)
ascends_push log txn (a ∷ b ∷ more) t h each is = (h.0, ascends_push log txn (b ∷ more) t h.1 (All-tail (IsTakenIn log txn) a (b ∷ more) each) is)

-- what a write that takes nothing leaves
pub list_kept :
    (spec : KeySpecValue) (old new : List LogRec) (txn : ℕ) (rid : Rid) (row : Option (List Cell)) (txns : List TxnValue) → Logged old (Write txn rid row) new
    → AddsToGuards spec old (Write txn rid row) new → key_taken spec (live_at old rid) row ≡ None → AreGuards spec old txns → AreGuards spec new txns
list_kept spec old new txn rid row txns added adds none h = record {
  each = All-weaker (AreTakenIn old) (AreTakenIn new) (λ t. all_then old new (Write txn rid row) t added) txns h.each;
  listed = λ key n. h.listed key n ∙ (elim (cases_eq n (length old + 1)) [
    | inl is ↦ took_past spec old key n (omega (arith, is)) ∙ sym (adds.took key n ∙ rw (eq-eqb n (length old + 1) is) (taken_none spec (live_at old rid) row key none))
    | inr ne ↦ sym (adds.took key n ∙ rw (ne_eqb n (length old + 1) ne) refl)
  ]);
}

-- what one that takes a key leaves
pub list_write :
    (spec : KeySpecValue) (old new : List LogRec) (txn : ℕ) (rid : Rid) (row : Option (List Cell)) (txns : List TxnValue) (at : ℕ) (t d : TxnValue) (key : List ℕ)
    → Logged old (Write txn rid row) new → AddsToGuards spec old (Write txn rid row) new → key_taken spec (live_at old rid) row ≡ Some key
    → at < length txns → t.txn ≡ txn → (get_or txns at d).txn ≡ txn
    → t.taken ≡ (get_or txns at d).taken ++ record { number = length old + 1; key = key } ∷ []
    → AreGuards spec old txns → AreGuards spec new (set txns at t)
list_write spec old new txn rid row txns at t d key added adds some l by was_by taken_is h = record {
  each = All-set (AreTakenIn new) txns at t changed (All-weaker (AreTakenIn old) (AreTakenIn new) (λ u. all_then old new (Write txn rid row) u added) txns h.each);
  listed = λ k n. listed_set txns at t d k n (extra k n) l (ap (is_taken k n) taken_is ∙ list_any-append (λ x. (x.number == n) && bytes_eq x.key k) (get_or txns at d).taken (g ∷ []) ∙ ap (λ b. is_taken k n (get_or txns at d).taken || b) (or_no (extra k n)))
      ∙ (elim (cases_eq n (length old + 1)) [
        | inl is ↦ rw (unlisted k n is, eq-eqb (length old + 1) n (sym is)) (sym (newest k n is ∙ taken_some spec (live_at old rid) row k key some))
        | inr ne ↦ rw (ne_eqb (length old + 1) n (λ same. ne (sym same))) (or_no (is_listed txns k n) ∙ h.listed k n ∙ sym (adds.took k n ∙ rw (ne_eqb n (length old + 1) ne) refl))
      ]);
} where
  g : Taken
  g = record { number = length old + 1; key = key }

  extra : List ℕ → ℕ → Bool
  extra k n = (length old + 1 == n) && bytes_eq key k

  was : AreTakenIn old (get_or txns at d)
  was = h.each at d l

  count : length new ≡ length old + 1
  count = ap length added.is ∙ length-append old (Write txn rid row ∷ [])

  changed : AreTakenIn new t
  changed = record {
    each = rw (by, taken_is) (All-append (IsTakenIn new txn) (get_or txns at d).taken (g ∷ [])
        (All-weaker (IsTakenIn old txn) (IsTakenIn new txn) (taken_then old new (Write txn rid row) txn added) (get_or txns at d).taken
        (subst (λ (u : ℕ). All (IsTakenIn old u) (get_or txns at d).taken) was_by was.each))
        (All-cons (IsTakenIn new txn) g [] (record { within = omega (arith, count); by = ap txn_of added.numbers.here }) (All-nil (IsTakenIn new txn))));
    ascend = rw taken_is (ascends_push old (get_or txns at d).txn (get_or txns at d).taken g was.ascend was.each refl);
  }

  newest : (k : List ℕ) (n : ℕ) → n ≡ length old + 1 → took_key spec new k n ≡ (has_key spec k (live_at old rid) && not (has_key spec k row))
  newest k n e = adds.took k n ∙ rw (eq-eqb n (length old + 1) e) refl

  unlisted : (k : List ℕ) (n : ℕ) → n ≡ length old + 1 → is_listed txns k n ≡ false
  unlisted k n e = h.listed k n ∙ took_past spec old k n (omega (arith, e))
