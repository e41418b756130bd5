-- A log with one record more, and its beginnings: what its undos name, and where the row stays.
use Rattle.std.proofs.Common.{◌≡◌, ℕ, zero, suc, ◌+◌, ◌<◌, Bool, true, false, List, [], ◌∷◌, ◌++◌, length, take, Option, Some, None, refl, sym, ap, ◌∙◌, arith}
use Rattle.std.proofs.Common.{inl, inr, subst}
use Rattle.std.specs.Prelude.{◌||◌, ◌&&◌, not}
use Rattle.std.specs.List.{slice_get, list_any}
use Rattle.std.proofs.lemmas.Bool.{cases_Bool, cases_eq, cases_lt, and_left, ne_eqb, false≢true, cond-false}
use Rattle.std.proofs.lemmas.Option.{slice_get_past, same_Some}
use Rattle.keybytes.specs.Rids.{same_rid}
use Rattle.keybytes.specs.declared.rid.Rid.{Rid}
use Rattle.heap_log.specs.declared.record.LogRec.{LogRec}
use Rattle.heap_log.specs.declared.record.LogRec.TheVariants.{Write, Undo, Commit, Switch}
use Rattle.heap_log.specs.Growing.{UndoesNameEarlier, Added, changed_rid, first_records}
use Rattle.heap_log.specs.Standing.{record_at, undone, is_undo_of, is_write_at, place_of, stands_at, newest_at, last_below, live_at, row_at, row_of}
use Rattle.heap_log.specs.Standing.{NamesEarlier}
use Rattle.heap_log.proofs.Adds.{AddsToLive, AddsToStanding, AddsToBefore, AddsToLast, AddsToNumbers}
use Rattle.heap_log.proofs.Last.{IsLast, last_below_some, last_below-more, last_below_agree}
use Rattle.heap_log.proofs.Records.{slice_get-append_left, slice_get-append_seam, record_at-kept, record_at-added, length-added, undone-added, or_no}
use Rattle.heap_log.proofs.Records.{undo_within}
use Rattle.heap_log.proofs.Added.{adds_to_before, adds_to_last, adds_to_numbers, adds_to_standing}
use Rattle.heap_log.proofs.Live.{adds_to_live}

-- no record from that number on undoes one past the end
none_past : (k : ℕ) (log : List LogRec) (n : ℕ) → ((i : ℕ) (rec : LogRec) → slice_get log i ≡ Some rec → NamesEarlier (k + i) rec) → k + length log < n
    → list_any (is_undo_of n) log ≡ false
none_past k [] n names past = refl
none_past k (rec ∷ log) n names past =
    let here : is_undo_of n rec ≡ false = undo_within (k + 0) n rec (names 0 rec refl) (omega (arith, past)) in
    let rest : list_any (is_undo_of n) log ≡ false =
    none_past (k + 1) log n (λ i r at. let same : k + suc i ≡ k + 1 + i = omega arith in subst (λ (m : ℕ). NamesEarlier m r) same (names (suc i) r at))
    (omega (arith, past)) in
    ap (λ b. b || list_any (is_undo_of n) log) here ∙ rest

-- no undo names a number past the records
pub undone-past : (log : List LogRec) → UndoesNameEarlier log → (n : ℕ) → length log < n → undone log n ≡ false
undone-past log names n past =
    none_past 0 log n (λ i rec at. let same : i ≡ 0 + i = omega arith in subst (λ (m : ℕ). NamesEarlier m rec) same (names i rec at)) (omega (arith, past))

-- that is kept by a record that names an earlier one
pub names_more : (log : List LogRec) (rec : LogRec) → UndoesNameEarlier log → NamesEarlier (length log) rec → UndoesNameEarlier (log ++ rec ∷ [])
names_more log rec names last n r at =
    elim (cases_lt n (length log)) [
      | inl l ↦ names n r (sym (slice_get-append_left log (rec ∷ []) n l) ∙ at)
      | inr ge ↦ elim (cases_eq n (length log)) [
        | inl is ↦
            let same : rec ≡ r = same_Some rec r (sym (slice_get-append_seam log rec) ∙ ap (slice_get (log ++ rec ∷ [])) (sym is) ∙ at) in
            subst (λ (m : ℕ). NamesEarlier m r) (sym is) (subst (NamesEarlier (length log)) same last)
        | inr ne ↦
            let none : slice_get (log ++ rec ∷ []) n ≡ None = slice_get_past (log ++ rec ∷ []) n (omega (arith, length-added log rec, ge, ne)) in
            absurd (let both : None ≡ Some r = sym none ∙ at in cc)
      ]
    ]

slice_get-take : (k : ℕ) (log : List LogRec) (n : ℕ) (rec : LogRec) → slice_get (take k log) n ≡ Some rec → slice_get log n ≡ Some rec
slice_get-take zero log n rec at = absurd (cc)
slice_get-take (suc k) [] n rec at = at
slice_get-take (suc k) (r ∷ log) zero rec at = at
slice_get-take (suc k) (r ∷ log) (suc n) rec at = slice_get-take k log n rec at

-- and by each beginning
pub names_first : (k : ℕ) (log : List LogRec) → UndoesNameEarlier log → UndoesNameEarlier (first_records k log)
names_first k log names n rec at = names n rec (slice_get-take k log n rec at)

-- what an added record does to the rows, to the standing and the last writes, and to the numbers
pub record Grows (old : List LogRec) (rec : LogRec) (new : List LogRec) : Type 0 where
  pub is : new ≡ old ++ rec ∷ []
  pub live : AddsToLive old rec new
  pub standing : AddsToStanding old rec new
  pub before : AddsToBefore old rec new
  pub last : AddsToLast old rec new
  pub numbers : AddsToNumbers old rec new

-- the log before the added record
before_it : (old : List LogRec) (rec : LogRec) → UndoesNameEarlier (old ++ rec ∷ []) → UndoesNameEarlier old
before_it old rec names n r at =
    elim (cases_lt n (length old)) [
      | inl l ↦ names n r (slice_get-append_left old (rec ∷ []) n l ∙ at)
      | inr ge ↦ absurd (let both : None ≡ Some r = sym (slice_get_past old n ge) ∙ at in cc)
    ]

grows_by : (old : List LogRec) (rec : LogRec) → UndoesNameEarlier (old ++ rec ∷ []) → Grows old rec (old ++ rec ∷ [])
grows_by old rec names =
    let earlier : UndoesNameEarlier old = before_it old rec names in
    let fresh : undone old (length old + 1) ≡ false = undone-past old earlier (length old + 1) (omega arith) in
    let last : NamesEarlier (length old) rec = names (length old) rec (slice_get-append_seam old rec) in
    record {
      is = refl;
      live = adds_to_live old rec fresh last;
      standing = adds_to_standing old rec fresh last;
      before = adds_to_before old rec;
      last = adds_to_last old rec;
      numbers = adds_to_numbers old rec (undone-past old earlier) last;
    }

pub grows : (old : List LogRec) (rec : LogRec) (new : List LogRec) → Added old rec new → Grows old rec new
grows old rec new added = subst (Grows old rec) (sym added.records) (grows_by old rec (subst UndoesNameEarlier added.records added.earlier))

-- whether that is the RID, if there is one
abbrev pub is_rid : Rid → Option Rid → Bool
is_rid rid None = false
is_rid rid (Some r) = same_rid r rid

written_place : (rid : Rid) (rec : Option LogRec) → is_write_at rid rec ≡ true → is_rid rid (place_of rec) ≡ true
written_place rid None e = absurd (false≢true e)
written_place rid (Some (Write t r row)) e = e
written_place rid (Some (Undo t n)) e = absurd (false≢true e)
written_place rid (Some (Commit t)) e = absurd (false≢true e)
written_place rid (Some (Switch v)) e = absurd (false≢true e)

-- a record that is of another RID undoes nothing here
not_undone : (log : List LogRec) (rec : LogRec) (rid : Rid) (n : ℕ) → is_rid rid (changed_rid log rec) ≡ false → is_write_at rid (record_at log n) ≡ true
    → is_undo_of n rec ≡ false
not_undone log (Write t r row) rid n other here = refl
not_undone log (Undo t m) rid n other here =
    ne_eqb m n (λ is. false≢true (sym other ∙ ap (λ k. is_rid rid (place_of (record_at log k))) is ∙ written_place rid (record_at log n) here))
not_undone log (Commit t) rid n other here = refl
not_undone log (Switch v) rid n other here = refl

not_written : (log : List LogRec) (rec : LogRec) (rid : Rid) → is_rid rid (changed_rid log rec) ≡ false → is_write_at rid (Some rec) ≡ false
not_written log (Write t r row) rid other = other
not_written log (Undo t n) rid other = refl
not_written log (Commit t) rid other = refl
not_written log (Switch v) rid other = refl

-- what stands here stands as before
stands_kept : (log : List LogRec) (rec : LogRec) (rid : Rid) (n : ℕ) → is_rid rid (changed_rid log rec) ≡ false → n < length log + 1
    → stands_at (log ++ rec ∷ []) rid n ≡ stands_at log rid n
stands_kept log rec rid n other within =
    ap (λ x. is_write_at rid x && not (undone (log ++ rec ∷ []) n)) (record_at-kept log rec n within)
    ∙ (elim (cases_Bool (is_write_at rid (record_at log n))) [
      | inl here ↦
          ap (λ x. is_write_at rid (record_at log n) && not x)
          (undone-added log rec n ∙ ap (λ x. undone log n || x) (not_undone log rec rid n other here) ∙ or_no (undone log n))
      | inr none ↦
          and_left (is_write_at rid (record_at log n)) (not (undone (log ++ rec ∷ []) n)) none
          ∙ sym (and_left (is_write_at rid (record_at log n)) (not (undone log n)) none)
    ])

-- the newest standing write at another RID stays, whatever the log
pub newest_kept : (log : List LogRec) (rec : LogRec) (rid : Rid) → is_rid rid (changed_rid log rec) ≡ false
    → newest_at (log ++ rec ∷ []) rid ≡ newest_at log rid
newest_kept log rec rid other =
    let new : List LogRec = log ++ rec ∷ [] in
    let n : ℕ = length log + 1 in
    let none : stands_at new rid n ≡ false =
    and_left (is_write_at rid (record_at new n)) (not (undone new n)) (ap (is_write_at rid) (record_at-added log rec) ∙ not_written log rec rid other) in
    ap (λ k. last_below (stands_at new rid) (k + 1)) (length-added log rec)
    ∙ last_below-more (stands_at new rid) n
    ∙ cond-false (stands_at new rid n) (Some n) (last_below (stands_at new rid) n) none
    ∙ last_below_agree (stands_at new rid) (stands_at log rid) n (λ k less. stands_kept log rec rid k other less)

row_kept : (log : List LogRec) (rec : LogRec) (rid : Rid) (o : Option ℕ) → newest_at log rid ≡ o → row_at (log ++ rec ∷ []) o ≡ row_at log o
row_kept log rec rid None e = refl
row_kept log rec rid (Some n) e =
    let last : IsLast (stands_at log rid) (length log + 1) n = last_below_some (stands_at log rid) (length log + 1) n e in
    ap row_of (record_at-kept log rec n last.below)

-- a record changes the row at no RID but its own, whatever the log
pub live_kept : (log : List LogRec) (rec : LogRec) (rid : Rid) → is_rid rid (changed_rid log rec) ≡ false → live_at (log ++ rec ∷ []) rid ≡ live_at log rid
live_kept log rec rid other = ap (row_at (log ++ rec ∷ [])) (newest_kept log rec rid other) ∙ row_kept log rec rid (newest_at log rid) refl
