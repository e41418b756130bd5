-- What each step keeps: wherever the transactions are cut, no two RIDs have one key.
use Rattle.std.proofs.Common.{◌≡◌, ◌≢◌, ℕ, ◌+◌, ◌<◌, ◌≤◌, Bool, true, false, min, List, [], ◌∷◌, ◌++◌, length, Some, refl, sym, ap, ◌∙◌, arith, inl, inr}
use Rattle.std.specs.Prelude.{if◌then◌else◌, ◌&&◌, ◌||◌, not, nat_lt, ◌==◌}
use Rattle.std.proofs.lemmas.Bool.{cases_eq, cases_lt, cases_Bool, false≢true, and_parts, and_from, or_left, or_right, lt-ltb, le-ltb, eqb-true, eq-eqb, ne_eqb}
use Rattle.keybytes.specs.Keys.{KeySpecValue}
use Rattle.keybytes.specs.declared.rid.Rid.{Rid}
use Rattle.heap_log.specs.declared.outcome.Outcome.{Outcome}
use Rattle.heap_log.specs.declared.record.LogRec.{LogRec}
use Rattle.heap_log.specs.declared.record.LogRec.TheVariants.{Undo, Commit, Switch}
use Rattle.heap_log.specs.Standing.{record_at, undone, is_write_of, is_write_at, stands_of, stands_at, live_at, newest_standing, txn_of}
use Rattle.heap_log.proofs.Last.{IsLast, last_below_some}
use Rattle.heap_log.proofs.Records.{or_no, txn_of-write, writes_by, some_place-there}
use Rattle.heap_table.specs.Holders.{committed}
use Rattle.key_guards.specs.UniqueKeys.{has_key, row_kept, KeysAreUnique, KeysStayUnique, AllIsCommitted}
use Rattle.key_guards.proofs.Rows.{stays-added, stays-new, row_kept-old, row_kept-live}

-- a standing write at a RID is one of its transaction
pub stands-by : (log : List LogRec) (rid : Rid) (n : ℕ) → stands_at log rid n ≡ true → stands_of log (txn_of (record_at log n)) n ≡ true
stands-by log rid n is =
    let parts : (is_write_at rid (record_at log n) ≡ true) × (not (undone log n) ≡ true) = and_parts (is_write_at rid (record_at log n)) (not (undone log n)) is in
    and_from (is_write_of (txn_of (record_at log n)) (record_at log n)) (not (undone log n))
    (writes_by (record_at log n) (some_place-there rid (record_at log n) parts.0)) parts.1

-- with no cut in reach the rows are those that stand
uncut : (log : List LogRec) (rid : Rid) → row_kept log (λ txn. length log + 1) rid ≡ live_at log rid
uncut log rid = row_kept-live log (λ txn. length log + 1) rid (λ n l is.
    or_right (committed log (txn_of (record_at log n))) (nat_lt n (length log + 1)) (lt-ltb n (length log + 1) l))

pub unique_now : (spec : KeySpecValue) (log : List LogRec) → KeysStayUnique spec log → KeysAreUnique spec log
unique_now spec log h = record {
  one = λ key p q a b.
      h.one (λ txn. length log + 1) key p q (ap (has_key spec key) (uncut log p) ∙ a) (ap (has_key spec key) (uncut log q) ∙ b);
}

-- where nobody has anything to undo, that the keys are unique now is enough
pub unique_at_rest : (spec : KeySpecValue) (log : List LogRec) → AllIsCommitted log → KeysAreUnique spec log → KeysStayUnique spec log
unique_at_rest spec log all h = record {
  one = λ cut key p q a b.
      h.one key p q (ap (has_key spec key) (sym (same cut p)) ∙ a) (ap (has_key spec key) (sym (same cut q)) ∙ b);
}
  where
    same : (cut : ℕ → ℕ) (rid : Rid) → row_kept log cut rid ≡ live_at log rid
    same cut rid = row_kept-live log cut rid (λ n l is.
        or_left (committed log (txn_of (record_at log n))) (nat_lt n (cut (txn_of (record_at log n))))
        (all.each (txn_of (record_at log n)) n (stands-by log rid n is)))

-- a longer log in which each cut leaves the rows that some cut left before
by_cuts :
    (spec : KeySpecValue) (log new : List LogRec) (before : (ℕ → ℕ) → ℕ → ℕ)
    → ((cut : ℕ → ℕ) (rid : Rid) → row_kept new cut rid ≡ row_kept log (before cut) rid)
    → KeysStayUnique spec log → KeysStayUnique spec new
by_cuts spec log new before same h = record {
  one = λ cut key p q a b.
      h.one (before cut) key p q (ap (has_key spec key) (sym (same cut p)) ∙ a) (ap (has_key spec key) (sym (same cut q)) ∙ b);
}

-- the cut with another number for one transaction
abbrev pub cut_at : ℕ → ℕ → (ℕ → ℕ) → ℕ → ℕ
cut_at txn n cut other = if txn == other then n else cut other

-- a commit: from now on the transaction is not cut
committed_kept : (a : Bool) (txn other n count m : ℕ) → n < count → ((a || (txn == other)) || nat_lt n m) ≡ (a || nat_lt n (if txn == other then count else m))
committed_kept true txn other n count m l = refl
committed_kept false txn other n count m l = elim (cases_Bool (txn == other)) [
  | inl is ↦ rw (is, lt-ltb n count l) refl
  | inr miss ↦ rw miss refl
]

pub unique_commit : (spec : KeySpecValue) (log : List LogRec) (txn : ℕ) → KeysStayUnique spec log → KeysStayUnique spec (log ++ Commit txn ∷ [])
unique_commit spec log txn h = by_cuts spec log (log ++ Commit txn ∷ []) (cut_at txn (length log + 1)) same h
  where
    same : (cut : ℕ → ℕ) (rid : Rid) → row_kept (log ++ Commit txn ∷ []) cut rid ≡ row_kept log (cut_at txn (length log + 1) cut) rid
    same cut rid = row_kept-old log (Commit txn) (cut_at txn (length log + 1) cut) cut rid (stays-new log (Commit txn) cut rid) (λ n l.
        stays-added log (Commit txn) cut rid n l
        ∙ ap (λ b. (is_write_at rid (record_at log n) && not b)
        && ((committed log (txn_of (record_at log n)) || (txn == txn_of (record_at log n))) || nat_lt n (cut (txn_of (record_at log n))))) (or_no (undone log n))
        ∙ ap (λ b. stands_at log rid n && b) (committed_kept (committed log (txn_of (record_at log n))) txn (txn_of (record_at log n)) n (length log + 1) (cut (txn_of (record_at log n))) l))

-- a record that is no write, undo or commit changes nothing
pub unique_switch : (spec : KeySpecValue) (log : List LogRec) (verdicts : List Outcome) → KeysStayUnique spec log → KeysStayUnique spec (log ++ Switch verdicts ∷ [])
unique_switch spec log verdicts h = by_cuts spec log (log ++ Switch verdicts ∷ []) (λ cut. cut) same h
  where
    same : (cut : ℕ → ℕ) (rid : Rid) → row_kept (log ++ Switch verdicts ∷ []) cut rid ≡ row_kept log cut rid
    same cut rid = row_kept-old log (Switch verdicts) cut cut rid (stays-new log (Switch verdicts) cut rid) (λ n l.
        stays-added log (Switch verdicts) cut rid n l
        ∙ rw (or_no (undone log n), or_no (committed log (txn_of (record_at log n)))) refl)

-- the undo of the transaction's newest standing write: it is cut there
below_both : (k n m : ℕ) → k ≤ n → (not (n == k) && nat_lt k m) ≡ nat_lt k (min m n)
below_both k n m l = elim (cases_eq n k) [
  | inl is ↦
      let least : min m n ≤ k = omega (arith, is) in
      rw (eq-eqb n k is, le-ltb k (min m n) least) refl
  | inr other ↦ elim (cases_lt k m) [
    | inl low ↦
        let less : k < min m n = omega arith in
        rw (ne_eqb n k other, lt-ltb k m low, lt-ltb k (min m n) less) refl
    | inr high ↦
        let least : min m n ≤ k = omega arith in
        rw (ne_eqb n k other, le-ltb k m high, le-ltb k (min m n) least) refl
  ]
]

undo_cut : (c s : Bool) (k n m : ℕ) → (s ≡ true → (c ≡ false) × (k ≤ n)) → (s ≡ false → n ≢ k) → (not (n == k) && (c || nat_lt k m)) ≡ (c || nat_lt k (if s then min m n else m))
undo_cut c true k n m own others =
    let parts : (c ≡ false) × (k ≤ n) = own refl in
    rw parts.0 (below_both k n m parts.1)
undo_cut c false k n m own others = rw (ne_eqb n k (others refl)) refl

undo_kept : (log : List LogRec) (txn n k : ℕ) (rid : Rid) (m : ℕ) → committed log txn ≡ false → newest_standing log txn ≡ Some n
    → k < length log + 1
    → ((is_write_at rid (record_at log k) && not (undone log k || (n == k)))
    && (committed log (txn_of (record_at log k)) || nat_lt k m))
    ≡ (stands_at log rid k && (committed log (txn_of (record_at log k)) || nat_lt k (if txn == txn_of (record_at log k) then min m n else m)))
undo_kept log txn n k rid m live newest l = elim (cases_Bool (stands_at log rid k)) [
  | inr gone ↦ gone_both (is_write_at rid (record_at log k)) (undone log k) (n == k) (committed log (txn_of (record_at log k)) || nat_lt k m)
      (committed log (txn_of (record_at log k)) || nat_lt k (if txn == txn_of (record_at log k) then min m n else m)) gone
  | inl stands ↦
      let last : IsLast (stands_of log txn) (length log + 1) n = last_below_some (stands_of log txn) (length log + 1) n newest in
      let by : txn_of (record_at log n) ≡ txn = txn_of-write txn (record_at log n) (and_parts (is_write_of txn (record_at log n)) (not (undone log n)) last.passes).0 in
      stands_both (is_write_at rid (record_at log k)) (undone log k) (n == k) (committed log (txn_of (record_at log k)) || nat_lt k m)
      (committed log (txn_of (record_at log k)) || nat_lt k (if txn == txn_of (record_at log k) then min m n else m)) stands
      (undo_cut (committed log (txn_of (record_at log k))) (txn == txn_of (record_at log k)) k n m
      (λ own.
      let is : txn ≡ txn_of (record_at log k) = eqb-true txn (txn_of (record_at log k)) own in (
        ap (committed log) (sym is) ∙ live,
        elim (cases_lt n k) [
          | inl above ↦ absurd (false≢true (sym (last.after k above l) ∙ (ap (λ t. stands_of log t k) is ∙ stands-by log rid k stands)))
          | inr at ↦ at
        ],
      ))
      (λ other e. false≢true (sym other ∙ eq-eqb txn (txn_of (record_at log k)) (sym by ∙ ap (λ i. txn_of (record_at log i)) e))))
] where
  gone_both : (w d e a b : Bool) → (w && not d) ≡ false → ((w && not (d || e)) && a) ≡ ((w && not d) && b)
  gone_both false d e a b miss = refl
  gone_both true true e a b miss = refl
  gone_both true false e a b miss = absurd (false≢true (sym miss))

  stands_both : (w d e a b : Bool) → (w && not d) ≡ true → (not e && a) ≡ b → ((w && not (d || e)) && a) ≡ ((w && not d) && b)
  stands_both false d e a b hit same = absurd (false≢true hit)
  stands_both true true e a b hit same = absurd (false≢true hit)
  stands_both true false e a b hit same = same

pub unique_undo : (spec : KeySpecValue) (log : List LogRec) (txn n : ℕ) → committed log txn ≡ false → newest_standing log txn ≡ Some n → KeysStayUnique spec log → KeysStayUnique spec (log ++ Undo txn n ∷ [])
unique_undo spec log txn n open' newest h = by_cuts spec log (log ++ Undo txn n ∷ []) (λ cut other. if txn == other then min (cut other) n else cut other) same h
  where
    same : (cut : ℕ → ℕ) (rid : Rid) → row_kept (log ++ Undo txn n ∷ []) cut rid ≡ row_kept log (λ other. if txn == other then min (cut other) n else cut other) rid
    same cut rid = row_kept-old log (Undo txn n) (λ other. if txn == other then min (cut other) n else cut other) cut rid (stays-new log (Undo txn n) cut rid) (λ k l.
        stays-added log (Undo txn n) cut rid k l
        ∙ ap (λ b. (is_write_at rid (record_at log k) && not (undone log k || (n == k))) && (b || nat_lt k (cut (txn_of (record_at log k))))) (or_no (committed log (txn_of (record_at log k))))
        ∙ undo_kept log txn n k rid (cut (txn_of (record_at log k))) open' newest l)
