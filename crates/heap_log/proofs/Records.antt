-- The records of a log by their numbers, and those of a log with one record more.
use Rattle.std.proofs.Common.{◌≡◌, ℕ, zero, suc, ◌+◌, ◌-◌, ◌<◌, ◌≤◌, Bool, true, false, List, [], ◌∷◌, ◌++◌, length, get_or, Option, Some, None, refl, sym, ap}
use Rattle.std.proofs.Common.{◌∙◌, arith, add-one, length-append, ◌⊎◌, inl, inr}
use Rattle.std.specs.Prelude.{◌||◌, IsSome}
use Rattle.std.specs.List.{slice_get}
use Rattle.std.proofs.lemmas.List.Folds.{list_any-append}
use Rattle.std.proofs.lemmas.Bool.{cases_eq, cases_lt, ne_eqb, eq-eqb, eqb-true, false≢true}
use Rattle.std.proofs.lemmas.Option.{slice_get_past, slice_get_read}
use Rattle.keybytes.specs.declared.rid.Rid.{Rid}
use Rattle.heap_log.specs.declared.record.LogRec.{LogRec}
use Rattle.heap_log.specs.declared.record.LogRec.TheVariants.{Write, Undo, Commit, Switch}
use Rattle.keybytes.proofs.SameRids.{same_rid-true, same_rid-refl}
use Rattle.heap_log.specs.Standing.{record_at, undone, is_undo_of, is_write_of, is_write_at, place_of, txn_of, rid_of, NamesEarlier}

pub slice_get-append_left : {X : Type 0} (xs ys : List X) (i : ℕ) → i < length xs → slice_get (xs ++ ys) i ≡ slice_get xs i
slice_get-append_left [] ys i l = absurd (omega arith)
slice_get-append_left (x ∷ xs) ys zero l = refl
slice_get-append_left (x ∷ xs) ys (suc i) l = slice_get-append_left xs ys i (omega arith)

pub slice_get-append_seam : {X : Type 0} (xs : List X) (y : X) → slice_get (xs ++ y ∷ []) (length xs) ≡ Some y
slice_get-append_seam [] y = refl
slice_get-append_seam (x ∷ xs) y = slice_get-append_seam xs y

pub record_at-kept : (log : List LogRec) (rec : LogRec) (n : ℕ) → n < length log + 1 → record_at (log ++ rec ∷ []) n ≡ record_at log n
record_at-kept log rec zero l = refl
record_at-kept log rec (suc i) l = slice_get-append_left log (rec ∷ []) i (omega arith)

pub record_at-added : (log : List LogRec) (rec : LogRec) → record_at (log ++ rec ∷ []) (length log + 1) ≡ Some rec
record_at-added log rec = rw add-one (slice_get-append_seam log rec)

pub record_at-past : (log : List LogRec) (n : ℕ) → length log < n → record_at log n ≡ None
record_at-past log zero l = absurd (omega arith)
record_at-past log (suc i) l = slice_get_past log i (omega arith)

pub length-added : (log : List LogRec) (rec : LogRec) → length (log ++ rec ∷ []) ≡ length log + 1
length-added log rec = length-append log (rec ∷ [])

pub or_no : (b : Bool) → (b || false) ≡ b
or_no true = refl
or_no false = refl

pub or_false : (a b : Bool) → a ≡ false → b ≡ false → (a || b) ≡ false
or_false a b e f = rw (e, f) refl

pub undone-added : (log : List LogRec) (rec : LogRec) (n : ℕ) → undone (log ++ rec ∷ []) n ≡ (undone log n || is_undo_of n rec)
undone-added log rec n = list_any-append (is_undo_of n) log (rec ∷ []) ∙ ap (λ b. undone log n || b) (or_no (is_undo_of n rec))

pub undo_within : (count n : ℕ) (rec : LogRec) → NamesEarlier count rec → count < n → is_undo_of n rec ≡ false
undo_within count n (Write t rid row) h l = refl
undo_within count n (Undo t m) h l = ne_eqb m n (λ e. omega (arith, e, h.1, l))
undo_within count n (Commit t) h l = refl
undo_within count n (Switch verdicts) h l = refl

-- a write in the longer log is an old one or the new one
pub written_cases : (log : List LogRec) (rec : LogRec) (test : Option LogRec → Bool) (n : ℕ) → test None ≡ false → test (record_at (log ++ rec ∷ []) n) ≡ true
    → ((n < length log + 1) × (test (record_at log n) ≡ true)) ⊎ ((n ≡ length log + 1) × (test (Some rec) ≡ true))
written_cases log rec test n none e =
    elim (cases_lt n (length log + 1)) [
      | inl l ↦ inl (l, ap test (sym (record_at-kept log rec n l)) ∙ e)
      | inr ge ↦ elim (cases_eq n (length log + 1)) [
        | inl is ↦ inr (is, ap test (sym (ap (record_at (log ++ rec ∷ [])) is ∙ record_at-added log rec)) ∙ e)
        | inr ne ↦ absurd (false≢true (sym none ∙ ap test (sym (record_at-past (log ++ rec ∷ []) n (omega (arith, length-append log (rec ∷ []))))) ∙ e))
      ]
    ]

-- a write has the number of a record
pub write_within : (log : List LogRec) (n : ℕ) (test : Option LogRec → Bool) → test None ≡ false → test (record_at log n) ≡ true
    → (0 < n) × (n < length log + 1)
write_within log zero test none e = absurd (false≢true (sym none ∙ e))
write_within log (suc i) test none e =
    elim (cases_lt i (length log)) [
      | inl l ↦ (omega arith, omega arith)
      | inr ge ↦ absurd (false≢true (sym none ∙ ap test (sym (slice_get_past log i ge)) ∙ e))
    ]

pub record_at-read : (log : List LogRec) (n : ℕ) (x : LogRec) → 0 < n → n ≤ length log → x ≡ get_or log (n - 1) x → record_at log n ≡ Some x
record_at-read log zero x low high is = absurd (omega arith)
record_at-read log (suc i) x low high is =
    let less : suc i - 1 ≡ i = omega arith in
    slice_get_read log (length log) i x refl (omega arith) (rw less at is)

-- what a write says of itself
pub txn_of-write : (txn : ℕ) (rec : Option LogRec) → is_write_of txn rec ≡ true → txn_of rec ≡ txn
txn_of-write txn None e = absurd (false≢true e)
txn_of-write txn (Some (Write t rid row)) e = eqb-true t txn e
txn_of-write txn (Some (Undo t n)) e = absurd (false≢true e)
txn_of-write txn (Some (Commit t)) e = absurd (false≢true e)
txn_of-write txn (Some (Switch v)) e = absurd (false≢true e)

pub rid_of-write : (place : Rid) (rec : Option LogRec) → is_write_at place rec ≡ true → rid_of rec ≡ place
rid_of-write place None e = absurd (false≢true e)
rid_of-write place (Some (Write t rid row)) e = same_rid-true rid place e
rid_of-write place (Some (Undo t n)) e = absurd (false≢true e)
rid_of-write place (Some (Commit t)) e = absurd (false≢true e)
rid_of-write place (Some (Switch v)) e = absurd (false≢true e)

-- one record is of one transaction, and at one RID
pub one_writer : (t u : ℕ) (rec : Option LogRec) → is_write_of t rec ≡ true → is_write_of u rec ≡ true → t ≡ u
one_writer t u rec e f = sym (txn_of-write t rec e) ∙ txn_of-write u rec f

pub one_place : (p q : Rid) (rec : Option LogRec) → is_write_at p rec ≡ true → is_write_at q rec ≡ true → p ≡ q
one_place p q rec e f = sym (rid_of-write p rec e) ∙ rid_of-write q rec f

-- a write is at its RID, and of its transaction
pub writes_there : (rec : Option LogRec) → IsSome (place_of rec) → is_write_at (rid_of rec) rec ≡ true
writes_there None h = absurd (false≢true h)
writes_there (Some (Write t rid row)) h = same_rid-refl rid
writes_there (Some (Undo t n)) h = absurd (false≢true h)
writes_there (Some (Commit t)) h = absurd (false≢true h)
writes_there (Some (Switch v)) h = absurd (false≢true h)

pub writes_by : (rec : Option LogRec) → IsSome (place_of rec) → is_write_of (txn_of rec) rec ≡ true
writes_by None h = absurd (false≢true h)
writes_by (Some (Write t rid row)) h = eq-eqb t t refl
writes_by (Some (Undo t n)) h = absurd (false≢true h)
writes_by (Some (Commit t)) h = absurd (false≢true h)
writes_by (Some (Switch v)) h = absurd (false≢true h)

pub some_place-by : (txn : ℕ) (rec : Option LogRec) → is_write_of txn rec ≡ true → IsSome (place_of rec)
some_place-by txn None e = absurd (false≢true e)
some_place-by txn (Some (Write t rid row)) e = refl
some_place-by txn (Some (Undo t n)) e = absurd (false≢true e)
some_place-by txn (Some (Commit t)) e = absurd (false≢true e)
some_place-by txn (Some (Switch v)) e = absurd (false≢true e)

pub some_place-there : (place : Rid) (rec : Option LogRec) → is_write_at place rec ≡ true → IsSome (place_of rec)
some_place-there place None e = absurd (false≢true e)
some_place-there place (Some (Write t rid row)) e = refl
some_place-there place (Some (Undo t n)) e = absurd (false≢true e)
some_place-there place (Some (Commit t)) e = absurd (false≢true e)
some_place-there place (Some (Switch v)) e = absurd (false≢true e)
