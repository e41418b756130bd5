-- The row that stands at a RID once a record is added.
use Rattle.std.proofs.Common.{◌≡◌, ℕ, ◌+◌, ◌≤◌, Bool, true, false, cond, List, [], ◌∷◌, ◌++◌, length, Option, Some, None, refl, sym, ap, ◌∙◌, arith, inl, inr}
use Rattle.std.specs.Prelude.{if◌then◌else◌, not}
use Rattle.std.proofs.lemmas.Bool.{cases_Bool, and_parts, cond-true, cond-false}
use Rattle.keybytes.specs.declared.cell.Cell.{Cell}
use Rattle.keybytes.specs.declared.rid.Rid.{Rid}
use Rattle.heap_log.specs.declared.outcome.Outcome.{Outcome}
use Rattle.heap_log.specs.declared.record.LogRec.{LogRec}
use Rattle.heap_log.specs.declared.record.LogRec.TheVariants.{Write, Undo, Commit, Switch}
use Rattle.keybytes.specs.Rids.{same_rid}
use Rattle.heap_log.specs.Standing.{record_at, undone, is_undo_of, is_write_at, is_number, last_below, stands_at, newest_at, live_at, row_at, row_of}
use Rattle.heap_log.specs.Standing.{standing_before, NamesEarlier}
use Rattle.heap_log.proofs.Adds.{live_after, AddsToLive}
use Rattle.heap_log.proofs.Last.{IsLast, last_below_some}
use Rattle.heap_log.proofs.Records.{record_at-kept, record_at-added, rid_of-write}
use Rattle.heap_log.proofs.Added.{undone-fresh, newest-plain, newest-undo, is_number-true}

-- the row of an old write is the old row
row_at-kept : (log : List LogRec) (rec : LogRec) (p : ℕ → Bool) (n : ℕ) (o : Option ℕ) → n ≤ length log + 1 → last_below p n ≡ o
    → row_at (log ++ rec ∷ []) o ≡ row_at log o
row_at-kept log rec p n None l e = refl
row_at-kept log rec p n (Some m) l e =
    let last : IsLast p n m = last_below_some p n m e in
    ap row_of (record_at-kept log rec m (omega (arith, last.below)))

row_at-newest : (log : List LogRec) (rec : LogRec) (place : Rid) → row_at (log ++ rec ∷ []) (newest_at log place) ≡ live_at log place
row_at-newest log rec place = row_at-kept log rec (stands_at log place) (length log + 1) (newest_at log place) (omega arith) refl

row_at-cond : (log : List LogRec) (b : Bool) (m n : Option ℕ) → row_at log (cond b m n) ≡ cond b (row_at log m) (row_at log n)
row_at-cond log true m n = refl
row_at-cond log false m n = refl

-- a record that undoes nothing
live-plain : (log : List LogRec) (rec : LogRec) (place : Rid) → undone (log ++ rec ∷ []) (length log + 1) ≡ false → ((k : ℕ) → is_undo_of k rec ≡ false)
    → live_at (log ++ rec ∷ []) place ≡ cond (is_write_at place (Some rec)) (row_of (Some rec)) (live_at log place)
live-plain log rec place e none =
    let new : List LogRec = log ++ rec ∷ [] in
    let hit : Bool = is_write_at place (Some rec) in
    ap (row_at new) (newest-plain log rec (is_write_at place) e none)
    ∙ row_at-cond new hit (Some (length log + 1)) (newest_at log place)
    ∙ ap (λ x. cond hit (row_of x) (row_at new (newest_at log place))) (record_at-added log rec)
    ∙ ap (cond hit (row_of (Some rec))) (row_at-newest log rec place)

pub live-write : (log : List LogRec) (txn : ℕ) (rid : Rid) (row : Option (List Cell)) (place : Rid) → undone log (length log + 1) ≡ false
    → live_at (log ++ Write txn rid row ∷ []) place ≡ (if same_rid rid place then row else live_at log place)
live-write log txn rid row place e = live-plain log (Write txn rid row) place (undone-fresh log (Write txn rid row) e tt) (λ k. refl)

pub live-commit : (log : List LogRec) (txn : ℕ) (place : Rid) → undone log (length log + 1) ≡ false → live_at (log ++ Commit txn ∷ []) place ≡ live_at log place
live-commit log txn place e = live-plain log (Commit txn) place (undone-fresh log (Commit txn) e tt) (λ k. refl)

pub live-switch : (log : List LogRec) (verdicts : List Outcome) (place : Rid) → undone log (length log + 1) ≡ false
    → live_at (log ++ Switch verdicts ∷ []) place ≡ live_at log place
live-switch log verdicts place e = live-plain log (Switch verdicts) place (undone-fresh log (Switch verdicts) e tt) (λ k. refl)

-- the undo of the newest standing write at a RID brings back the row of the one before it, and all else stays
pub live-undo : (log : List LogRec) (txn n : ℕ) (place : Rid) → undone log (length log + 1) ≡ false → NamesEarlier (length log) (Undo txn n)
    → live_at (log ++ Undo txn n ∷ []) place ≡ (if is_number n (newest_at log place) then row_at log (standing_before log n) else live_at log place)
live-undo log txn n place e names =
    let new : List LogRec = log ++ Undo txn n ∷ [] in
    let hit : Bool = is_number n (newest_at log place) in
    let before : Option ℕ = last_below (stands_at log place) n in
    let start : live_at new place ≡ cond hit (row_at new before) (row_at new (newest_at log place)) =
    ap (row_at new) (newest-undo log txn n (is_write_at place) (undone-fresh log (Undo txn n) e names) refl)
    ∙ row_at-cond new hit before (newest_at log place) in
    elim (cases_Bool hit) [
      | inl is ↦
          let last : IsLast (stands_at log place) (length log + 1) n =
          last_below_some (stands_at log place) (length log + 1) n (is_number-true n (newest_at log place) is) in
          let there : is_write_at place (record_at log n) ≡ true = (and_parts (is_write_at place (record_at log n)) (not (undone log n)) last.passes).0 in
          start ∙ cond-true hit (row_at new before) (row_at new (newest_at log place)) is
          ∙ row_at-kept log (Undo txn n) (stands_at log place) n before (omega (arith, names.1)) refl
          ∙ ap (λ r. row_at log (last_below (stands_at log r) n)) (sym (rid_of-write place (record_at log n) there))
          ∙ sym (cond-true hit (row_at log (standing_before log n)) (live_at log place) is)
      | inr miss ↦
          start ∙ cond-false hit (row_at new before) (row_at new (newest_at log place)) miss
          ∙ row_at-newest log (Undo txn n) place
          ∙ sym (cond-false hit (row_at log (standing_before log n)) (live_at log place) miss)
    ]

pub live-added : (log : List LogRec) (rec : LogRec) (place : Rid) → undone log (length log + 1) ≡ false → NamesEarlier (length log) rec
    → live_at (log ++ rec ∷ []) place ≡ live_after log rec place
live-added log (Write txn rid row) place e names = live-write log txn rid row place e
live-added log (Undo txn n) place e names = live-undo log txn n place e names
live-added log (Commit txn) place e names = live-commit log txn place e
live-added log (Switch verdicts) place e names = live-switch log verdicts place e

-- what a record does to the rows
pub adds_to_live : (log : List LogRec) (rec : LogRec) → undone log (length log + 1) ≡ false → NamesEarlier (length log) rec
    → AddsToLive log rec (log ++ rec ∷ [])
adds_to_live log rec e names = record { live = λ place. live-added log rec place e names }
