-- How the guards of keys change with each record.
use Rattle.std.proofs.Common.{◌≡◌, ℕ, ◌+◌, ◌<◌, ◌≤◌, Bool, true, false, List, [], ◌∷◌, length, Option, Some, None, refl, sym, ap, ◌∙◌, arith, ◌⊎◌, inl, inr, length-append}
use Rattle.std.specs.Prelude.{◌&&◌, ◌||◌, not, ◌==◌}
use Rattle.std.proofs.lemmas.Bool.{cases_eq, cases_lt, cases_Bool, false≢true, and_parts, eq-eqb, ne_eqb}
use Rattle.keybytes.specs.Keys.{KeySpecValue}
use Rattle.keybytes.specs.declared.cell.Cell.{Cell}
use Rattle.keybytes.specs.declared.rid.Rid.{Rid}
use Rattle.heap_log.specs.declared.outcome.Outcome.{Outcome}
use Rattle.heap_log.specs.declared.record.LogRec.{LogRec}
use Rattle.heap_log.specs.declared.record.LogRec.TheVariants.{Write, Undo, Commit, Switch}
use Rattle.heap_log.specs.Standing.{record_at, undone, is_undo_of, is_write_of, is_write_at, stands_of, stands_at, last_below, row_at, row_of, live_at, standing_before, newest_at, newest_standing, txn_of, rid_of}
use Rattle.heap_log.proofs.Adds.{KeepsBefore}
use Rattle.heap_log.proofs.Last.{IsLast, last_below_some}
use Rattle.heap_log.proofs.Records.{or_no, record_at-past, txn_of-write, some_place-by, writes_there}
use Rattle.heap_table.specs.Holders.{committed, is_commit_of}
use Rattle.key_guards.proofs.Logging.{Logged}
use Rattle.heap_table.proofs.Writers.{committed-added}
use Rattle.key_guards.specs.UniqueKeys.{has_key, WritesAreHeld}
use Rattle.key_guards.specs.KeyRefusals.{took_key}
use Rattle.key_guards.specs.GuardSteps.{AddsToGuards}

committed_then : (old new : List LogRec) (rec : LogRec) (txn : ℕ) → Logged old rec new → committed new txn ≡ (committed old txn || is_commit_of txn rec)
committed_then old new rec txn added = ap (λ (l : List LogRec). committed l txn) added.is ∙ committed-added old rec txn

-- the row of an old number is the old row
row_then : (old new : List LogRec) (rec : LogRec) (p : ℕ → Bool) (n : ℕ) (o : Option ℕ) → Logged old rec new → n ≤ length old + 1 → last_below p n ≡ o → row_at new o ≡ row_at old o
row_then old new rec p n None added l e = refl
row_then old new rec p n (Some m) added l e =
    let last : IsLast p n m = last_below_some p n m e in
    ap row_of (added.numbers.earlier m (omega (arith, last.below, l)))

-- an old write whose row before it stays
took_old :
    (spec : KeySpecValue) (old new : List LogRec) (rec : LogRec) (key : List ℕ) (n : ℕ) → Logged old rec new → n ≤ length old → KeepsBefore old n rec
    → took_key spec new key n
    ≡ (((is_write_of (txn_of (record_at old n)) (record_at old n) && not (undone old n || is_undo_of n rec))
    && not (committed old (txn_of (record_at old n)) || is_commit_of (txn_of (record_at old n)) rec))
    && (has_key spec key (row_at old (standing_before old n)) && not (has_key spec key (row_at old (Some n)))))
took_old spec old new rec key n added l keeps =
    let at : record_at new n ≡ record_at old n = added.numbers.earlier n l in
    let done : committed new (txn_of (record_at old n)) ≡ (committed old (txn_of (record_at old n)) || is_commit_of (txn_of (record_at old n)) rec) = committed_then old new rec (txn_of (record_at old n)) added in
    let before : standing_before new n ≡ standing_before old n = added.before.before n l keeps in
    let row : row_at new (standing_before old n) ≡ row_at old (standing_before old n) = row_then old new rec (stands_at old (rid_of (record_at old n))) n (standing_before old n) added (omega (arith, l)) refl in
    rw (before, at, added.numbers.undoes n, done, row) refl

-- a number with no record guards nothing
pub took_past : (spec : KeySpecValue) (log : List LogRec) (key : List ℕ) (n : ℕ) → length log < n → took_key spec log key n ≡ false
took_past spec log key n l = let past : record_at log n ≡ None = record_at-past log n l in rw past refl

-- a number that has no standing write guards nothing
took_gone : (spec : KeySpecValue) (log : List LogRec) (key : List ℕ) (n : ℕ) → stands_of log (txn_of (record_at log n)) n ≡ false → took_key spec log key n ≡ false
took_gone spec log key n gone = rw gone refl

plain : (spec : KeySpecValue) (old new : List LogRec) (rec : LogRec) (key : List ℕ) (n : ℕ) → Logged old rec new → n ≤ length old → KeepsBefore old n rec
    → is_undo_of n rec ≡ false → is_commit_of (txn_of (record_at old n)) rec ≡ false → took_key spec new key n ≡ took_key spec old key n
plain spec old new rec key n added l keeps no_undo no_commit =
    took_old spec old new rec key n added l keeps
    ∙ rw (no_undo, no_commit, or_no (undone old n), or_no (committed old (txn_of (record_at old n)))) refl

pub guards_switch : (spec : KeySpecValue) (old new : List LogRec) (verdicts : List Outcome) → Logged old (Switch verdicts) new → AddsToGuards spec old (Switch verdicts) new
guards_switch spec old new verdicts added = record {
  took = λ key n. elim (cases_lt (length old) n) [
    | inr l ↦ plain spec old new (Switch verdicts) key n added l tt refl refl
    | inl past ↦ at key n past ∙ sym (took_past spec old key n past)
  ];
} where
  at : (key : List ℕ) (n : ℕ) → length old < n → took_key spec new key n ≡ false
  at key n past = elim (cases_eq n (length old + 1)) [
    | inl e ↦ let here : record_at new n ≡ Some (Switch verdicts) = ap (record_at new) e ∙ added.numbers.here in rw here refl
    | inr ne ↦ took_past spec new key n (omega (arith, past, ap length added.is, length-append old (Switch verdicts ∷ [])))
  ]

pub guards_commit : (spec : KeySpecValue) (old new : List LogRec) (txn : ℕ) → Logged old (Commit txn) new → AddsToGuards spec old (Commit txn) new
guards_commit spec old new txn added = record {
  took = λ key n. elim (cases_lt (length old) n) [
    | inr l ↦ took_old spec old new (Commit txn) key n added l tt
        ∙ ap (λ b. ((is_write_of (txn_of (record_at old n)) (record_at old n) && not b)
        && not (committed old (txn_of (record_at old n)) || (txn == txn_of (record_at old n))))
        && (has_key spec key (row_at old (standing_before old n)) && not (has_key spec key (row_at old (Some n))))) (or_no (undone old n))
        ∙ ended (stands_of old (txn_of (record_at old n)) n) (committed old (txn_of (record_at old n))) (txn == txn_of (record_at old n))
        (has_key spec key (row_at old (standing_before old n)) && not (has_key spec key (row_at old (Some n))))
    | inl past ↦ at key n past ∙ sym (none_left (txn == txn_of (record_at old n)) (took_key spec old key n) (took_past spec old key n past))
  ];
} where
  ended : (s c t k : Bool) → ((s && not (c || t)) && k) ≡ (not t && ((s && not c) && k))
  ended true true true k = refl
  ended true true false k = refl
  ended true false true k = refl
  ended true false false k = refl
  ended false c true k = refl
  ended false c false k = refl

  none_left : (t k : Bool) → k ≡ false → (not t && k) ≡ false
  none_left true k e = refl
  none_left false k e = e

  at : (key : List ℕ) (n : ℕ) → length old < n → took_key spec new key n ≡ false
  at key n past = elim (cases_eq n (length old + 1)) [
    | inl e ↦ let here : record_at new n ≡ Some (Commit txn) = ap (record_at new) e ∙ added.numbers.here in rw here refl
    | inr ne ↦ took_past spec new key n (omega (arith, past, ap length added.is, length-append old (Commit txn ∷ [])))
  ]

-- a new write: it guards what it takes
pub guards_write :
    (spec : KeySpecValue) (old new : List LogRec) (txn : ℕ) (rid : Rid) (row : Option (List Cell)) → Logged old (Write txn rid row) new
    → committed old txn ≡ false → undone old (length old + 1) ≡ false → AddsToGuards spec old (Write txn rid row) new
guards_write spec old new txn rid row added live fresh = record {
  took = λ key n. elim (cases_eq n (length old + 1)) [
    | inl e ↦ ap (took_key spec new key) e ∙ newest key ∙ rw (eq-eqb n (length old + 1) e) refl
    | inr ne ↦ elim (cases_lt (length old) n) [
      | inr l ↦ plain spec old new (Write txn rid row) key n added l tt refl refl ∙ rw (ne_eqb n (length old + 1) ne) refl
      | inl past ↦
          took_past spec new key n (omega (arith, past, ap length added.is, length-append old (Write txn rid row ∷ [])))
          ∙ sym (took_past spec old key n past) ∙ rw (ne_eqb n (length old + 1) ne) refl
    ]
  ];
} where
  newest : (key : List ℕ) → took_key spec new key (length old + 1) ≡ (has_key spec key (live_at old rid) && not (has_key spec key row))
  newest key =
      let here : record_at new (length old + 1) ≡ Some (Write txn rid row) = added.numbers.here in
      let stays : undone new (length old + 1) ≡ false = added.numbers.undoes (length old + 1) ∙ or_no (undone old (length old + 1)) ∙ fresh in
      let live_then : committed new txn ≡ false = committed_then old new (Write txn rid row) txn added ∙ or_no (committed old txn) ∙ live in
      let before : standing_before new (length old + 1) ≡ newest_at old rid =
      added.before.after (length old + 1) (rw here refl) ∙ rw (eq-eqb (length old + 1) (length old + 1) refl) refl in
      let row_was : row_at new (newest_at old rid) ≡ live_at old rid = row_then old new (Write txn rid row) (stands_at old rid) (length old + 1) (newest_at old rid) added (omega arith) refl in
      rw (before, here, stays, live_then, row_was, eq-eqb txn txn refl) refl

-- the undo of a transaction's newest standing write: that write guards nothing any more
pub guards_undo :
    (spec : KeySpecValue) (old new : List LogRec) (txn m : ℕ) → Logged old (Undo txn m) new → committed old txn ≡ false → newest_standing old txn ≡ Some m
    → WritesAreHeld old → AddsToGuards spec old (Undo txn m) new
guards_undo spec old new txn m added live newest held = record {
  took = λ key n. elim (cases_lt (length old) n) [
    | inr l ↦ elim (keeps_cases n l) [
      | inl keeps ↦ took_old spec old new (Undo txn m) key n added l keeps
          ∙ ap (λ b. ((is_write_of (txn_of (record_at old n)) (record_at old n) && not (undone old n || (m == n))) && not b)
          && (has_key spec key (row_at old (standing_before old n)) && not (has_key spec key (row_at old (Some n))))) (or_no (committed old (txn_of (record_at old n))))
          ∙ taken_back (is_write_of (txn_of (record_at old n)) (record_at old n)) (undone old n) (m == n) (not (committed old (txn_of (record_at old n))))
          (has_key spec key (row_at old (standing_before old n)) && not (has_key spec key (row_at old (Some n))))
      | inr gone ↦ took_gone spec new key n (gone_then n l gone) ∙ sym (none_left (m == n) (took_key spec old key n) (took_gone spec old key n gone))
    ]
    | inl past ↦ at key n past ∙ sym (none_left (m == n) (took_key spec old key n) (took_past spec old key n past))
  ];
} where
  last : IsLast (stands_of old txn) (length old + 1) m
  last = last_below_some (stands_of old txn) (length old + 1) m newest

  taken_back : (w d e c k : Bool) → (((w && not (d || e)) && c) && k) ≡ (not e && (((w && not d) && c) && k))
  taken_back true true true c k = refl
  taken_back true true false c k = refl
  taken_back true false true c k = refl
  taken_back true false false c k = refl
  taken_back false d true c k = refl
  taken_back false d false c k = refl

  none_left : (t k : Bool) → k ≡ false → (not t && k) ≡ false
  none_left true k e = refl
  none_left false k e = e

  at : (key : List ℕ) (n : ℕ) → length old < n → took_key spec new key n ≡ false
  at key n past = elim (cases_eq n (length old + 1)) [
    | inl e ↦ let here : record_at new n ≡ Some (Undo txn m) = ap (record_at new) e ∙ added.numbers.here in rw here refl
    | inr ne ↦ took_past spec new key n (omega (arith, past, ap length added.is, length-append old (Undo txn m ∷ [])))
  ]

  keeps_cases : (n : ℕ) → n ≤ length old → KeepsBefore old n (Undo txn m) ⊎ (stands_of old (txn_of (record_at old n)) n ≡ false)
  keeps_cases n l = elim (cases_Bool (stands_of old (txn_of (record_at old n)) n)) [
    | inr gone ↦ inr gone
    | inl stands ↦ elim (cases_lt m n) [
      | inr low ↦ inl (inl low)
      | inl above ↦ elim (cases_Bool (is_write_at (rid_of (record_at old n)) (record_at old m))) [
        | inr apart ↦ inl (inr apart)
        | inl there ↦
            let by : is_write_of (txn_of (record_at old n)) (record_at old n) ≡ true = (and_parts (is_write_of (txn_of (record_at old n)) (record_at old n)) (not (undone old n)) stands).0 in
            let at_n : is_write_at (rid_of (record_at old n)) (record_at old n) ≡ true = writes_there (record_at old n) (some_place-by (txn_of (record_at old n)) (record_at old n) by) in
            let own : is_write_of txn (record_at old n) ≡ true = held.own txn m n (rid_of (record_at old n)) live last.passes above there at_n in
            let is : txn_of (record_at old n) ≡ txn = txn_of-write txn (record_at old n) own in
            absurd (false≢true (sym (last.after n above (omega (arith, l))) ∙ (ap (λ t. stands_of old t n) (sym is) ∙ stands)))
      ]
    ]
  ]

  still : (w d e : Bool) → (w && not d) ≡ false → (w && not (d || e)) ≡ false
  still false d e gone = refl
  still true true e gone = refl
  still true false e gone = absurd (false≢true (sym gone))

  gone_then : (n : ℕ) → n ≤ length old → stands_of old (txn_of (record_at old n)) n ≡ false → stands_of new (txn_of (record_at new n)) n ≡ false
  gone_then n l gone =
      let at_n : record_at new n ≡ record_at old n = added.numbers.earlier n l in
      rw (at_n, added.numbers.undoes n) (still (is_write_of (txn_of (record_at old n)) (record_at old n)) (undone old n) (m == n) gone)
