-- Which writes stand once a record is added: those of a transaction, and those at a RID, by one test of the records.
use Rattle.std.proofs.Common.{◌≡◌, ℕ, ◌+◌, ◌-◌, ◌<◌, ◌≤◌, Bool, true, false, cond, List, [], ◌∷◌, ◌++◌, length, Option, Some, None, refl, sym, ap, ◌∙◌, arith}
use Rattle.std.proofs.Common.{◌⊎◌, inl, inr}
use Rattle.std.specs.Prelude.{◌||◌, ◌&&◌, not, ◌==◌, IsSome}
use Rattle.std.proofs.lemmas.Bool.{cases_eq, cases_Bool, and_left, and_parts, ne_eqb, eq-eqb, eqb-true, and_right, not_from_true, false≢true}
use Rattle.std.proofs.lemmas.Bool.{false_from_ne_true, cond-true, cond-false}
use Rattle.keybytes.specs.declared.cell.Cell.{Cell}
use Rattle.keybytes.specs.declared.rid.Rid.{Rid}
use Rattle.heap_log.specs.declared.record.LogRec.{LogRec}
use Rattle.heap_log.specs.declared.record.LogRec.TheVariants.{Write, Undo, Commit, Switch}
use Rattle.heap_log.specs.Links.{newest_by, stands_by}
use Rattle.heap_log.specs.Standing.{record_at, undone, is_undo_of, is_number, is_write_of, is_write_at, rid_of, last_below, count_below, newest_standing}
use Rattle.heap_log.specs.Standing.{standing_before, standing_count, stands_at, newest_at, place_of, last_of, NamesEarlier}
use Rattle.heap_log.proofs.Adds.{newest_after, count_after, before_after, AddsToBefore, AddsToLast, AddsToNumbers, AddsToStanding, KeepsBefore}
use Rattle.heap_log.proofs.Last.{IsLast, last_below-more, last_below_agree, last_below_some, last_below_taken, last_below_without, count_below-more}
use Rattle.heap_log.proofs.Last.{count_below_agree, count_below_taken}
use Rattle.heap_log.proofs.Records.{record_at-kept, record_at-added, length-added, undone-added, or_no, or_false, undo_within, rid_of-write, written_cases}
use Rattle.heap_log.proofs.Records.{writes_there, some_place-there}

-- how many such records there are
abbrev pub count_by_test : (Option LogRec → Bool) → List LogRec → ℕ
count_by_test test log = count_below (stands_by test log) (length log + 1)

and_true : (b : Bool) → (b && true) ≡ b
and_true true = refl
and_true false = refl

or_true : (b : Bool) → (b || true) ≡ true
or_true true = refl
or_true false = refl

-- nothing names a record that isn't there yet
pub undone-later : (log : List LogRec) (rec : LogRec) (n : ℕ) → undone log n ≡ false → NamesEarlier (length log) rec → length log < n
    → undone (log ++ rec ∷ []) n ≡ false
undone-later log rec n e names l =
    undone-added log rec n ∙ or_false (undone log n) (is_undo_of n rec) e (undo_within (length log) n rec names l)

pub undone-fresh : (log : List LogRec) (rec : LogRec) → undone log (length log + 1) ≡ false → NamesEarlier (length log) rec
    → undone (log ++ rec ∷ []) (length log + 1) ≡ false
undone-fresh log rec e names = undone-later log rec (length log + 1) e names (omega arith)

-- the new record stands if it passes the test
seam : (log : List LogRec) (rec : LogRec) (test : Option LogRec → Bool) → undone (log ++ rec ∷ []) (length log + 1) ≡ false
    → stands_by test (log ++ rec ∷ []) (length log + 1) ≡ test (Some rec)
seam log rec test e = rw (e, record_at-added log rec) (and_true (test (Some rec)))

-- what the record doesn't undo stands as before
keeps : (log : List LogRec) (rec : LogRec) (test : Option LogRec → Bool) (k : ℕ) → is_undo_of k rec ≡ false → k < length log + 1
    → stands_by test (log ++ rec ∷ []) k ≡ stands_by test log k
keeps log rec test k none l =
    rw (record_at-kept log rec k l) (ap (λ b. test (record_at log k) && not b)
    (undone-added log rec k ∙ ap (λ b. undone log k || b) none ∙ or_no (undone log k)))

undone-now : (log : List LogRec) (txn n : ℕ) → undone (log ++ Undo txn n ∷ []) n ≡ true
undone-now log txn n = undone-added log (Undo txn n) n ∙ ap (λ b. undone log n || b) (eq-eqb n n refl) ∙ or_true (undone log n)

taken : (log : List LogRec) (test : Option LogRec → Bool) (txn n : ℕ) → stands_by test (log ++ Undo txn n ∷ []) n ≡ false
taken log test txn n =
    and_right (test (record_at (log ++ Undo txn n ∷ []) n)) (not (undone (log ++ Undo txn n ∷ []) n))
    (not_from_true (undone (log ++ Undo txn n ∷ []) n) (undone-now log txn n))

others : (log : List LogRec) (test : Option LogRec → Bool) (txn n k : ℕ) → k < length log + 1 → (k ≡ n → ⊥)
    → stands_by test (log ++ Undo txn n ∷ []) k ≡ stands_by test log k
others log test txn n k l ne = keeps log (Undo txn n) test k (ne_eqb n k (λ e. ne (sym e))) l

newest-seam : (log : List LogRec) (rec : LogRec) (test : Option LogRec → Bool) → undone (log ++ rec ∷ []) (length log + 1) ≡ false
    → newest_by test (log ++ rec ∷ []) ≡ cond (test (Some rec)) (Some (length log + 1)) (last_below (stands_by test (log ++ rec ∷ [])) (length log + 1))
newest-seam log rec test e =
    let new : List LogRec = log ++ rec ∷ [] in
    let n : ℕ = length log + 1 in
    ap (λ k. last_below (stands_by test new) (k + 1)) (length-added log rec)
    ∙ last_below-more (stands_by test new) n
    ∙ ap (λ b. cond b (Some n) (last_below (stands_by test new) n)) (seam log rec test e)

count-seam : (log : List LogRec) (rec : LogRec) (test : Option LogRec → Bool) → undone (log ++ rec ∷ []) (length log + 1) ≡ false
    → count_by_test test (log ++ rec ∷ []) ≡ cond (test (Some rec)) (count_below (stands_by test (log ++ rec ∷ [])) (length log + 1) + 1)
    (count_below (stands_by test (log ++ rec ∷ [])) (length log + 1))
count-seam log rec test e =
    let new : List LogRec = log ++ rec ∷ [] in
    let n : ℕ = length log + 1 in
    ap (λ k. count_below (stands_by test new) (k + 1)) (length-added log rec)
    ∙ count_below-more (stands_by test new) n
    ∙ ap (λ b. cond b (count_below (stands_by test new) n + 1) (count_below (stands_by test new) n)) (seam log rec test e)

-- a record that undoes nothing
pub newest-plain : (log : List LogRec) (rec : LogRec) (test : Option LogRec → Bool) → undone (log ++ rec ∷ []) (length log + 1) ≡ false
    → ((k : ℕ) → is_undo_of k rec ≡ false) → newest_by test (log ++ rec ∷ []) ≡ cond (test (Some rec)) (Some (length log + 1)) (newest_by test log)
newest-plain log rec test e none =
    newest-seam log rec test e
    ∙ ap (cond (test (Some rec)) (Some (length log + 1)))
    (last_below_agree (stands_by test (log ++ rec ∷ [])) (stands_by test log) (length log + 1) (λ k l. keeps log rec test k (none k) l))

pub count-plain : (log : List LogRec) (rec : LogRec) (test : Option LogRec → Bool) → undone (log ++ rec ∷ []) (length log + 1) ≡ false
    → ((k : ℕ) → is_undo_of k rec ≡ false) → count_by_test test (log ++ rec ∷ []) ≡ cond (test (Some rec)) (count_by_test test log + 1) (count_by_test test log)
count-plain log rec test e none =
    count-seam log rec test e
    ∙ ap (λ c. cond (test (Some rec)) (c + 1) c)
    (count_below_agree (stands_by test (log ++ rec ∷ [])) (stands_by test log) (length log + 1) (λ k l. keeps log rec test k (none k) l))

pub is_number-true : (n : ℕ) (o : Option ℕ) → is_number n o ≡ true → o ≡ Some n
is_number-true n None e = absurd (false≢true e)
is_number-true n (Some m) e = ap Some (eqb-true m n e)

pub is_number-false : (n : ℕ) (o : Option ℕ) → is_number n o ≡ false → o ≡ Some n → ⊥
is_number-false n o e is = false≢true (sym e ∙ ap (is_number n) is ∙ eq-eqb n n refl)

-- an undo: the newest one gives way to the one before it, and no other is the newest
pub newest-undo : (log : List LogRec) (txn n : ℕ) (test : Option LogRec → Bool) → undone (log ++ Undo txn n ∷ []) (length log + 1) ≡ false
    → test (Some (Undo txn n)) ≡ false → newest_by test (log ++ Undo txn n ∷ [])
    ≡ cond (is_number n (newest_by test log)) (last_below (stands_by test log) n) (newest_by test log)
newest-undo log txn n test e passed =
    let old : ℕ → Bool = stands_by test log in
    let new : ℕ → Bool = stands_by test (log ++ Undo txn n ∷ []) in
    let below : newest_by test (log ++ Undo txn n ∷ []) ≡ last_below new (length log + 1) =
    newest-seam log (Undo txn n) test e ∙ cond-false (test (Some (Undo txn n))) (Some (length log + 1)) (last_below new (length log + 1)) passed in
    elim (cases_Bool (is_number n (newest_by test log))) [
      | inl hit ↦
          let last : IsLast old (length log + 1) n = last_below_some old (length log + 1) n (is_number-true n (newest_by test log) hit) in
          below ∙ last_below_taken old new (length log + 1) n last (taken log test txn n) (others log test txn n)
          ∙ sym (cond-true (is_number n (newest_by test log)) (last_below old n) (newest_by test log) hit)
      | inr miss ↦
          below ∙ last_below_without old new (length log + 1) n (is_number-false n (newest_by test log) miss) (taken log test txn n) (others log test txn n)
          ∙ sym (cond-false (is_number n (newest_by test log)) (last_below old n) (newest_by test log) miss)
    ]

pub count-undo : (log : List LogRec) (txn n : ℕ) (test : Option LogRec → Bool) → undone (log ++ Undo txn n ∷ []) (length log + 1) ≡ false
    → test (Some (Undo txn n)) ≡ false → n ≤ length log
    → count_by_test test (log ++ Undo txn n ∷ []) ≡ cond (stands_by test log n) (count_by_test test log - 1) (count_by_test test log)
count-undo log txn n test e passed within =
    let old : ℕ → Bool = stands_by test log in
    let new : ℕ → Bool = stands_by test (log ++ Undo txn n ∷ []) in
    let below : count_by_test test (log ++ Undo txn n ∷ []) ≡ count_below new (length log + 1) =
    count-seam log (Undo txn n) test e ∙ cond-false (test (Some (Undo txn n))) (count_below new (length log + 1) + 1) (count_below new (length log + 1))
    passed in
    elim (cases_Bool (stands_by test log n)) [
      | inl hit ↦
          let less : count_below new (length log + 1) + 1 ≡ count_below old (length log + 1) =
          count_below_taken old new (length log + 1) n (omega arith) hit (taken log test txn n) (others log test txn n) in
          let fewer : count_below new (length log + 1) ≡ count_below old (length log + 1) - 1 = omega (arith, less) in
          below ∙ fewer ∙ sym (cond-true (stands_by test log n) (count_by_test test log - 1) (count_by_test test log) hit)
      | inr miss ↦
          below ∙ count_below_agree new old (length log + 1) (λ k l. elim (cases_eq k n) [
            | inl is ↦ ap new is ∙ taken log test txn n ∙ sym (ap old is ∙ miss)
            | inr ne ↦ others log test txn n k l ne
          ]) ∙ sym (cond-false (stands_by test log n) (count_by_test test log - 1) (count_by_test test log) miss)
    ]

-- the undo of a record that doesn't stand, by the test
pub newest-unmoved : (log : List LogRec) (txn n : ℕ) (test : Option LogRec → Bool) → undone (log ++ Undo txn n ∷ []) (length log + 1) ≡ false
    → test (Some (Undo txn n)) ≡ false → stands_by test log n ≡ false → newest_by test (log ++ Undo txn n ∷ []) ≡ newest_by test log
newest-unmoved log txn n test e passed miss =
    newest-undo log txn n test e passed
    ∙ cond-false (is_number n (newest_by test log)) (last_below (stands_by test log) n) (newest_by test log)
    (false_from_ne_true (is_number n (newest_by test log))
    (λ hit. false≢true (sym miss ∙ (last_below_some (stands_by test log) (length log + 1) n (is_number-true n (newest_by test log) hit)).passes)))

pub count-unmoved : (log : List LogRec) (txn n : ℕ) (test : Option LogRec → Bool) → undone (log ++ Undo txn n ∷ []) (length log + 1) ≡ false
    → test (Some (Undo txn n)) ≡ false → n ≤ length log → stands_by test log n ≡ false → count_by_test test (log ++ Undo txn n ∷ []) ≡ count_by_test test log
count-unmoved log txn n test e passed within miss =
    count-undo log txn n test e passed within ∙ cond-false (stands_by test log n) (count_by_test test log - 1) (count_by_test test log) miss

newest-of : (log : List LogRec) (rec : LogRec) (txn : ℕ) → undone log (length log + 1) ≡ false → NamesEarlier (length log) rec
    → newest_standing (log ++ rec ∷ []) txn ≡ newest_after log rec txn
newest-of log (Write t rid row) txn e names = newest-plain log (Write t rid row) (is_write_of txn) (undone-fresh log (Write t rid row) e names) (λ k. refl)
newest-of log (Undo t n) txn e names = newest-undo log t n (is_write_of txn) (undone-fresh log (Undo t n) e names) refl
newest-of log (Commit t) txn e names = newest-plain log (Commit t) (is_write_of txn) (undone-fresh log (Commit t) e names) (λ k. refl)
newest-of log (Switch v) txn e names = newest-plain log (Switch v) (is_write_of txn) (undone-fresh log (Switch v) e names) (λ k. refl)

count-of : (log : List LogRec) (rec : LogRec) (txn : ℕ) → undone log (length log + 1) ≡ false → NamesEarlier (length log) rec
    → standing_count (log ++ rec ∷ []) txn ≡ count_after log rec txn
count-of log (Write t rid row) txn e names = count-plain log (Write t rid row) (is_write_of txn) (undone-fresh log (Write t rid row) e names) (λ k. refl)
count-of log (Undo t n) txn e names = count-undo log t n (is_write_of txn) (undone-fresh log (Undo t n) e names) refl names.1
count-of log (Commit t) txn e names = count-plain log (Commit t) (is_write_of txn) (undone-fresh log (Commit t) e names) (λ k. refl)
count-of log (Switch v) txn e names = count-plain log (Switch v) (is_write_of txn) (undone-fresh log (Switch v) e names) (λ k. refl)

-- what a record does to the standing writes of each transaction
pub adds_to_standing : (log : List LogRec) (rec : LogRec) → undone log (length log + 1) ≡ false → NamesEarlier (length log) rec
    → AddsToStanding log rec (log ++ rec ∷ [])
adds_to_standing log rec e names = record {
  newest = λ txn. newest-of log rec txn e names;
  count = λ txn. count-of log rec txn e names;
}

-- the newest standing write at a RID before write n stays where the record undoes none of them
before-kept : (log : List LogRec) (rec : LogRec) (n : ℕ) → n ≤ length log
    → ((k : ℕ) → k < n → stands_at (log ++ rec ∷ []) (rid_of (record_at log n)) k ≡ stands_at log (rid_of (record_at log n)) k)
    → standing_before (log ++ rec ∷ []) n ≡ standing_before log n
before-kept log rec n l same =
    ap (λ r. last_below (stands_at (log ++ rec ∷ []) (rid_of r)) n) (record_at-kept log rec n (omega arith))
    ∙ last_below_agree (stands_at (log ++ rec ∷ []) (rid_of (record_at log n))) (stands_at log (rid_of (record_at log n))) n same

before-plain : (log : List LogRec) (rec : LogRec) (n : ℕ) → n ≤ length log → ((k : ℕ) → is_undo_of k rec ≡ false)
    → standing_before (log ++ rec ∷ []) n ≡ standing_before log n
before-plain log rec n l none = before-kept log rec n l (λ k b. keeps log rec (is_write_at (rid_of (record_at log n))) k (none k) (omega (arith, b)))

-- what is no write there doesn't stand there, before its undo and after it
elsewhere : (log : List LogRec) (test : Option LogRec → Bool) (txn n : ℕ) → test (record_at log n) ≡ false
    → stands_by test (log ++ Undo txn n ∷ []) n ≡ stands_by test log n
elsewhere log test txn n miss = taken log test txn n ∙ sym (and_left (test (record_at log n)) (not (undone log n)) miss)

before-undo : (log : List LogRec) (txn undone n : ℕ) → n ≤ length log → KeepsBefore log n (Undo txn undone)
    → standing_before (log ++ Undo txn undone ∷ []) n ≡ standing_before log n
before-undo log txn undone n l kept =
    let test : Option LogRec → Bool = is_write_at (rid_of (record_at log n)) in
    before-kept log (Undo txn undone) n l (λ k b. elim (cases_eq k undone) [
      | inl is ↦ elim kept [
        | inl past ↦ absurd (omega (arith, past, is, b))
        | inr miss ↦ rw is (elsewhere log test txn undone miss)
      ]
      | inr ne ↦ others log test txn undone k (omega (arith, b)) ne
    ])

before-of : (log : List LogRec) (rec : LogRec) (n : ℕ) → n ≤ length log → KeepsBefore log n rec → standing_before (log ++ rec ∷ []) n ≡ standing_before log n
before-of log (Write t rid row) n l kept = before-plain log (Write t rid row) n l (λ k. refl)
before-of log (Undo t undone) n l kept = before-undo log t undone n l kept
before-of log (Commit t) n l kept = before-plain log (Commit t) n l (λ k. refl)
before-of log (Switch v) n l kept = before-plain log (Switch v) n l (λ k. refl)

-- an undo: where it names the standing write before write n, the one before that comes back
before-undone : (log : List LogRec) (txn m n : ℕ) → n ≤ length log → standing_before (log ++ Undo txn m ∷ []) n ≡ before_after log (Undo txn m) n
before-undone log txn m n l =
    let rid : Rid = rid_of (record_at log n) in
    let old : ℕ → Bool = stands_at log rid in
    let new : ℕ → Bool = stands_at (log ++ Undo txn m ∷ []) rid in
    let gone : new m ≡ false = taken log (is_write_at rid) txn m in
    let same : (k : ℕ) → k < n → (k ≡ m → ⊥) → new k ≡ old k = λ k b. others log (is_write_at rid) txn m k (omega (arith, b)) in
    let kept : standing_before (log ++ Undo txn m ∷ []) n ≡ last_below new n =
    ap (λ r. last_below (stands_at (log ++ Undo txn m ∷ []) (rid_of r)) n) (record_at-kept log (Undo txn m) n (omega arith)) in
    elim (cases_Bool (is_number m (standing_before log n))) [
      | inl hit ↦
          let last : IsLast old n m = last_below_some old n m (is_number-true m (standing_before log n) hit) in
          let there : is_write_at rid (record_at log m) ≡ true = (and_parts (is_write_at rid (record_at log m)) (not (undone log m)) last.passes).0 in
          kept ∙ last_below_taken old new n m last gone same
          ∙ ap (λ r. last_below (stands_at log r) m) (sym (rid_of-write rid (record_at log m) there))
          ∙ sym (cond-true (is_number m (standing_before log n)) (standing_before log m) (standing_before log n) hit)
      | inr miss ↦
          kept ∙ last_below_without old new n m (is_number-false m (standing_before log n) miss) gone same
          ∙ sym (cond-false (is_number m (standing_before log n)) (standing_before log m) (standing_before log n) miss)
    ]

-- a write in the longer log is an old one, or the new record is it
written_or_new : (log : List LogRec) (rec : LogRec) (n : ℕ) → IsSome (place_of (record_at (log ++ rec ∷ []) n))
    → (n ≤ length log) ⊎ ((n ≡ length log + 1) × IsSome (place_of (Some rec)))
written_or_new log rec n some =
    let written : Option LogRec = record_at (log ++ rec ∷ []) n in
    elim (written_cases log rec (is_write_at (rid_of written)) n refl (writes_there written some)) [
      | inl old ↦ inl (omega (arith, old.0))
      | inr new ↦ inr (new.0, some_place-there (rid_of written) (Some rec) new.1)
    ]

before-write : (log : List LogRec) (txn : ℕ) (rid : Rid) (row : Option (List Cell)) (n : ℕ) → (n ≤ length log) ⊎ (n ≡ length log + 1)
    → standing_before (log ++ Write txn rid row ∷ []) n ≡ before_after log (Write txn rid row) n
before-write log txn rid row n (inl l) =
    before-plain log (Write txn rid row) n l (λ k. refl)
    ∙ sym (cond-false (n == length log + 1) (newest_at log rid) (standing_before log n) (ne_eqb n (length log + 1) (λ e. omega (arith, e, l))))
before-write log txn rid row n (inr is) =
    let rec : LogRec = Write txn rid row in
    let new : List LogRec = log ++ rec ∷ [] in
    ap (standing_before new) is
    ∙ ap (λ r. last_below (stands_at new (rid_of r)) (length log + 1)) (record_at-added log rec)
    ∙ last_below_agree (stands_at new rid) (stands_at log rid) (length log + 1) (λ k b. keeps log rec (is_write_at rid) k refl b)
    ∙ sym (cond-true (n == length log + 1) (newest_at log rid) (standing_before log n) (eq-eqb n (length log + 1) is))

before-added : (log : List LogRec) (rec : LogRec) (n : ℕ) → (n ≤ length log) ⊎ ((n ≡ length log + 1) × IsSome (place_of (Some rec)))
    → standing_before (log ++ rec ∷ []) n ≡ before_after log rec n
before-added log (Write t rid row) n (inl l) = before-write log t rid row n (inl l)
before-added log (Write t rid row) n (inr new) = before-write log t rid row n (inr new.0)
before-added log (Undo t m) n (inl l) = before-undone log t m n l
before-added log (Undo t m) n (inr new) = absurd (false≢true new.1)
before-added log (Commit t) n (inl l) = before-plain log (Commit t) n l (λ k. refl)
before-added log (Commit t) n (inr new) = absurd (false≢true new.1)
before-added log (Switch v) n (inl l) = before-plain log (Switch v) n l (λ k. refl)
before-added log (Switch v) n (inr new) = absurd (false≢true new.1)

-- what a record does to the standing write before another
pub adds_to_before : (log : List LogRec) (rec : LogRec) → AddsToBefore log rec (log ++ rec ∷ [])
adds_to_before log rec = record { before = λ n l kept. before-of log rec n l kept; after = λ n some. before-added log rec n (written_or_new log rec n some) }

-- the last record that passes the test, standing or not
pub last-added : (log : List LogRec) (rec : LogRec) (test : Option LogRec → Bool)
    → last_below (λ k. test (record_at (log ++ rec ∷ []) k)) (length (log ++ rec ∷ []) + 1)
    ≡ cond (test (Some rec)) (Some (length log + 1)) (last_below (λ k. test (record_at log k)) (length log + 1))
last-added log rec test =
    let new : List LogRec = log ++ rec ∷ [] in
    let n : ℕ = length log + 1 in
    let p : ℕ → Bool = λ k. test (record_at new k) in
    let q : ℕ → Bool = λ k. test (record_at log k) in
    ap (λ k. last_below p (k + 1)) (length-added log rec)
    ∙ last_below-more p n
    ∙ ap (λ x. cond (test x) (Some n) (last_below p n)) (record_at-added log rec)
    ∙ ap (cond (test (Some rec)) (Some n)) (last_below_agree p q n (λ k l. ap test (record_at-kept log rec k l)))

-- the last write of a transaction below a number that was there
pub last_of-kept : (log : List LogRec) (rec : LogRec) (txn n : ℕ) → n ≤ length log + 1 → last_of (log ++ rec ∷ []) txn n ≡ last_of log txn n
last_of-kept log rec txn n l =
    last_below_agree (λ k. is_write_of txn (record_at (log ++ rec ∷ []) k)) (λ k. is_write_of txn (record_at log k)) n
    (λ k b. ap (is_write_of txn) (record_at-kept log rec k (omega arith)))

-- what a record does to the last writes
pub adds_to_last : (log : List LogRec) (rec : LogRec) → AddsToLast log rec (log ++ rec ∷ [])
adds_to_last log rec = record {
  of_txn = λ txn. last-added log rec (is_write_of txn);
  at_rid = λ rid. last-added log rec (is_write_at rid);
  earlier = λ txn n l. last_of-kept log rec txn n l;
}

-- what a record does to the numbers
pub adds_to_numbers : (log : List LogRec) (rec : LogRec) → ((n : ℕ) → length log < n → undone log n ≡ false) → NamesEarlier (length log) rec
    → AddsToNumbers log rec (log ++ rec ∷ [])
adds_to_numbers log rec none names = record {
  here = record_at-added log rec;
  earlier = λ n l. record_at-kept log rec n (omega arith);
  undoes = λ n. undone-added log rec n;
  later = λ n l.
      let before : length log < n = omega (arith, length-added log rec) in
      undone-later log rec n (none n before) names before;
}
