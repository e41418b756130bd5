-- The rows that a cut keeps, in a log and in one with a record more.
use Rattle.std.proofs.Common.{◌≡◌, ◌≢◌, ℕ, zero, suc, ◌+◌, ◌<◌, Bool, true, false, List, [], ◌∷◌, ◌++◌, length, Option, Some, None, refl, sym, ap, ◌∙◌, arith, inl, inr}
use Rattle.std.specs.Prelude.{◌&&◌, ◌||◌, not, nat_lt}
use Rattle.std.proofs.lemmas.Bool.{cond-true, cond-false, cases_Bool, false≢true}
use Rattle.keybytes.specs.declared.rid.Rid.{Rid}
use Rattle.heap_log.specs.declared.record.LogRec.{LogRec}
use Rattle.heap_log.specs.Standing.{record_at, undone, is_undo_of, is_write_at, stands_at, last_below, row_at, row_of, live_at, txn_of}
use Rattle.heap_log.proofs.Last.{IsLast, last_below-more, last_below_agree, last_below_some}
use Rattle.heap_log.proofs.Records.{record_at-kept, record_at-added, length-added, undone-added}
use Rattle.heap_table.specs.Holders.{committed, is_commit_of}
use Rattle.heap_table.proofs.Writers.{committed-added}
use Rattle.key_guards.specs.UniqueKeys.{is_kept, stays_at, row_kept}

-- the row of an old write is the old row
row_at-old : (log : List LogRec) (rec : LogRec) (p : ℕ → Bool) (o : Option ℕ) → last_below p (length log + 1) ≡ o → row_at (log ++ rec ∷ []) o ≡ row_at log o
row_at-old log rec p None e = refl
row_at-old log rec p (Some m) e =
    let last : IsLast p (length log + 1) m = last_below_some p (length log + 1) m e in
    ap row_of (record_at-kept log rec m last.below)

-- what a longer log keeps of the old numbers
pub stays-added :
    (log : List LogRec) (rec : LogRec) (cut : ℕ → ℕ) (rid : Rid) (n : ℕ) → n < length log + 1
    → stays_at (log ++ rec ∷ []) cut rid n
    ≡ ((is_write_at rid (record_at log n) && not (undone log n || is_undo_of n rec))
    && ((committed log (txn_of (record_at log n)) || is_commit_of (txn_of (record_at log n)) rec) || nat_lt n (cut (txn_of (record_at log n)))))
stays-added log rec cut rid n l =
    let new : List LogRec = log ++ rec ∷ [] in
    let at : record_at new n ≡ record_at log n = record_at-kept log rec n l in
    rw (at, undone-added log rec n, committed-added log rec (txn_of (record_at log n))) refl

-- and of the new one
pub stays-new :
    (log : List LogRec) (rec : LogRec) (cut : ℕ → ℕ) (rid : Rid)
    → stays_at (log ++ rec ∷ []) cut rid (length log + 1)
    ≡ ((is_write_at rid (Some rec) && not (undone (log ++ rec ∷ []) (length log + 1)))
    && (committed (log ++ rec ∷ []) (txn_of (Some rec)) || nat_lt (length log + 1) (cut (txn_of (Some rec)))))
stays-new log rec cut rid = rw (record_at-added log rec) refl

-- where the new record is not kept at the RID, and the same old ones are
pub row_kept-old :
    (log : List LogRec) (rec : LogRec) (cut after : ℕ → ℕ) (rid : Rid) → stays_at (log ++ rec ∷ []) after rid (length log + 1) ≡ false
    → ((n : ℕ) → n < length log + 1 → stays_at (log ++ rec ∷ []) after rid n ≡ stays_at log cut rid n)
    → row_kept (log ++ rec ∷ []) after rid ≡ row_kept log cut rid
row_kept-old log rec cut after rid none same =
    let new : List LogRec = log ++ rec ∷ [] in
    let p : ℕ → Bool = stays_at new after rid in
    let count : length new + 1 ≡ length log + 1 + 1 = ap (λ k. k + 1) (length-added log rec) in
    let found : last_below p (length new + 1) ≡ last_below (stays_at log cut rid) (length log + 1) =
    ap (last_below p) count ∙ last_below-more p (length log + 1)
    ∙ cond-false (p (length log + 1)) (Some (length log + 1)) (last_below p (length log + 1)) none
    ∙ last_below_agree p (stays_at log cut rid) (length log + 1) same in
    ap (row_at new) found ∙ row_at-old log rec (stays_at log cut rid) (last_below (stays_at log cut rid) (length log + 1)) refl

-- where it is, its row is there
pub row_kept-new :
    (log : List LogRec) (rec : LogRec) (cut : ℕ → ℕ) (rid : Rid) → stays_at (log ++ rec ∷ []) cut rid (length log + 1) ≡ true
    → row_kept (log ++ rec ∷ []) cut rid ≡ row_of (Some rec)
row_kept-new log rec cut rid is =
    let new : List LogRec = log ++ rec ∷ [] in
    let p : ℕ → Bool = stays_at new cut rid in
    let count : length new + 1 ≡ length log + 1 + 1 = ap (λ k. k + 1) (length-added log rec) in
    let found : last_below p (length new + 1) ≡ Some (length log + 1) =
    ap (last_below p) count ∙ last_below-more p (length log + 1)
    ∙ cond-true (p (length log + 1)) (Some (length log + 1)) (last_below p (length log + 1)) is in
    ap (row_at new) found ∙ ap row_of (record_at-added log rec)

-- where all that stands at the RID is kept, its row is the one that stands
pub row_kept-live :
    (log : List LogRec) (cut : ℕ → ℕ) (rid : Rid) → ((n : ℕ) → n < length log + 1 → stands_at log rid n ≡ true → is_kept log cut n ≡ true)
    → row_kept log cut rid ≡ live_at log rid
row_kept-live log cut rid kept =
    ap (row_at log) (last_below_agree (stays_at log cut rid) (stands_at log rid) (length log + 1) (λ n l.
    elim (cases_Bool (stands_at log rid n)) [
      | inl is ↦ rw (is, kept n l is) refl
      | inr miss ↦ rw miss refl
    ]))

-- between a number that passes and has, and the last one that passes and has not, one passes that took it from the one before
pub record Taken (p : ℕ → Bool) (has : Option ℕ → Bool) (m n : ℕ) : Type 0 where
  pub number : ℕ
  pub above : m < number
  pub below : number < n
  pub passes : p number ≡ true
  pub had : has (last_below p number) ≡ true
  pub took : has (Some number) ≡ false

pub taken_above : (p : ℕ → Bool) (has : Option ℕ → Bool) (n m : ℕ) → m < n → p m ≡ true → has (Some m) ≡ true → has (last_below p n) ≡ false → Taken p has m n
taken_above p has zero m l is here lost = absurd (omega arith)
taken_above p has (suc n) m l is here lost =
    elim (cases_Bool (p n)) [
      | inr miss ↦
          let apart : m ≢ n = λ e. false≢true (sym miss ∙ ap p (sym e) ∙ is) in
          let rest : has (last_below p n) ≡ false = ap has (sym (cond-false (p n) (Some n) (last_below p n) miss)) ∙ lost in
          let t : Taken p has m n = taken_above p has n m (omega arith) is here rest in
          record { number = t.number; above = t.above; below = omega (arith, t.below); passes = t.passes; had = t.had; took = t.took }
      | inl hit ↦
          let last : has (Some n) ≡ false = ap has (sym (cond-true (p n) (Some n) (last_below p n) hit)) ∙ lost in
          let apart : m ≢ n = λ e. false≢true (sym last ∙ ap (λ k. has (Some k)) (sym e) ∙ here) in
          elim (cases_Bool (has (last_below p n))) [
            | inl had ↦ record { number = n; above = omega arith; below = omega arith; passes = hit; had = had; took = last }
            | inr gone ↦
                let t : Taken p has m n = taken_above p has n m (omega arith) is here gone in
                record { number = t.number; above = t.above; below = omega (arith, t.below); passes = t.passes; had = t.had; took = t.took }
          ]
    ]
