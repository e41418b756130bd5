-- What a record more does to the rows that stand and to the pages that are written.
use Rattle.std.proofs.Common.{◌≡◌, inl, inr, ℕ, ◌+◌, ◌≤◌, max, true, List, [], ◌∷◌, ◌++◌, ◌<◌, length, Option, Some, None, refl, sym, ap, ◌∙◌, arith, subst}
use Rattle.std.specs.Prelude.{not, ◌==◌}
use Rattle.std.proofs.lemmas.Bool.{false≢true, false_from_ne_true, or_cases, and_parts, eq-eqb, cond-true, cond-false}
use Rattle.std.proofs.lemmas.Bool.Decides.{nat_tests}
use Rattle.keybytes.specs.declared.cell.Cell.{Cell}
use Rattle.keybytes.specs.declared.rid.Rid.{Rid}
use Rattle.heap_log.specs.declared.outcome.Outcome.{Outcome}
use Rattle.heap_log.specs.declared.record.LogRec.{LogRec}
use Rattle.heap_log.specs.declared.record.LogRec.TheVariants.{Write, Undo, Commit, Switch}
use Rattle.keybytes.specs.Rids.{same_rid}
use Rattle.keybytes.proofs.SameRids.{same_rid-true, same_rid-refl}
use Rattle.heap_log.specs.Standing.{live_at, row_at, record_at, newest_at, stands_at, undone, is_write_of, is_write_at}
use Rattle.heap_log.proofs.Last.{last_below_some}
use Rattle.slotted_page.specs.Slot.{free}
use Rattle.heap_table.specs.Holders.{writes, wrote, holder}
use Rattle.heap_table.specs.Pages.{slot_end, slots_written, page_end, pages_written, slot_with, slot_of, KeepsRows, SetsRow, RowsAreInside}
use Rattle.heap_log.proofs.Growing.{Grows, grows}
use Rattle.heap_log.specs.Growing.{Added}
use Rattle.std.proofs.Math.Nat.{max-zero, max_comm}
use Rattle.heap_log.proofs.Records.{length-added}
use Rattle.heap_table.proofs.Holding.{holder_wrote}
use Rattle.heap_table.proofs.Writers.{wrote_from}
use Rattle.heap_table.proofs.Small.{max_turned, some_or_none}

-- the log with one record more, where memory for it was taken first
pub grown : (old kept new : List LogRec) (rec : LogRec) → kept ≡ old → Added kept rec new → Grows old rec new
grown old kept new rec same added = subst (λ (log : List LogRec). Grows log rec new) same (grows kept rec new added)

pub length_grown : (log new : List LogRec) (rec : LogRec) → Grows log rec new → length new ≡ length log + 1
length_grown log new rec added = ap length added.is ∙ length-added log rec

pub slots_written-added :
    (log : List LogRec) (rec : LogRec) (page : ℕ)
    → slots_written (log ++ rec ∷ []) page ≡ max (slots_written log page) (slot_end page rec)
slots_written-added [] rec page = max_comm (slot_end page rec) 0
slots_written-added (first ∷ log) rec page =
    rw (slots_written-added log rec page) (max_turned (slot_end page first) (slots_written log page) (slot_end page rec))

pub pages_written-added : (log : List LogRec) (rec : LogRec) → pages_written (log ++ rec ∷ []) ≡ max (pages_written log) (page_end rec)
pages_written-added [] rec = max_comm (page_end rec) 0
pages_written-added (first ∷ log) rec =
    rw (pages_written-added log rec) (max_turned (page_end first) (pages_written log) (page_end rec))

pub keeps_commit : (log new : List LogRec) (txn : ℕ) → Grows log (Commit txn) new → KeepsRows log new
keeps_commit log new txn added = record {
  live = added.live.live;
  pages = rw added.is (pages_written-added log (Commit txn) ∙ max-zero (pages_written log));
  slots = λ page. rw added.is (slots_written-added log (Commit txn) page ∙ max-zero (slots_written log page));
}

pub keeps_switch : (log new : List LogRec) (verdicts : List Outcome) → Grows log (Switch verdicts) new → KeepsRows log new
keeps_switch log new verdicts added = record {
  live = added.live.live;
  pages = rw added.is (pages_written-added log (Switch verdicts) ∙ max-zero (pages_written log));
  slots = λ page. rw added.is (slots_written-added log (Switch verdicts) page ∙ max-zero (slots_written log page));
}

-- no slot is written on a page that isn't
pub slots_past : (log : List LogRec) (page : ℕ) → pages_written log ≤ page → slots_written log page ≡ 0
slots_past [] page past = refl
slots_past (Write txn rid cells ∷ log) page past =
    let rest = slots_past log page (omega arith) in grind (arith, nat_tests)
slots_past (Undo txn n ∷ log) page past = let rest = slots_past log page (omega arith) in omega arith
slots_past (Commit txn ∷ log) page past = let rest = slots_past log page (omega arith) in omega arith
slots_past (Switch verdicts ∷ log) page past = let rest = slots_past log page (omega arith) in omega arith

-- a write's page and slot are written then
pub end_here : (page slot : ℕ) (txn : ℕ) (cells : Option (List Cell)) → slot_end page (Write txn (record { page = page; slot = slot }) cells) ≡ slot + 1
end_here page slot txn cells = grind (arith, nat_tests)

-- a RID that a transaction wrote is on a page that is, in a slot that is
pub written_inside : (log : List LogRec) (txn : ℕ) (rid : Rid) → wrote log txn rid ≡ true
    → (rid.page < pages_written log) × (rid.slot < slots_written log rid.page)
written_inside [] txn rid e = absurd (false≢true e)
written_inside (rec ∷ log) txn rid e = elim (or_cases (writes txn rid rec) (wrote log txn rid) e) [
  | inl here ↦ written_here rec txn rid here (pages_written log) (slots_written log rid.page)
  | inr there ↦ let rest = written_inside log txn rid there in (omega (arith, rest.0), omega (arith, rest.1))
] where
  written_here : (rec : LogRec) (txn : ℕ) (rid : Rid) → writes txn rid rec ≡ true → (m n : ℕ)
      → (rid.page < max (page_end rec) m) × (rid.slot < max (slot_end rid.page rec) n)
  written_here (Write w r row) txn rid e m n =
      let same : r ≡ rid = same_rid-true r rid (and_parts (w == txn) (same_rid r rid) e).1 in
      let page : r.page ≡ rid.page = ap (λ (x : Rid). x.page) same in
      let slot : r.slot ≡ rid.slot = ap (λ (x : Rid). x.slot) same in
      let test : (r.page == rid.page) ≡ true = eq-eqb r.page rid.page page in
      (omega (arith, page), rw test (omega (arith, slot)))
  written_here (Undo t k) txn rid e m n = absurd (false≢true e)
  written_here (Commit t) txn rid e m n = absurd (false≢true e)
  written_here (Switch o) txn rid e m n = absurd (false≢true e)

-- the newest write that stands at a RID is one there
pub newest_there : (log : List LogRec) (rid : Rid) (n : ℕ) → newest_at log rid ≡ Some n → is_write_at rid (record_at log n) ≡ true
newest_there log rid n e =
    (and_parts (is_write_at rid (record_at log n)) (not (undone log n)) (last_below_some (stands_at log rid) (length log + 1) n e).passes).0

-- somebody wrote where a row stands
live_written : (log : List LogRec) (rid : Rid) (cells : List Cell) → live_at log rid ≡ Some cells → (txn : ℕ) × (wrote log txn rid ≡ true)
live_written log rid cells stands = by (newest_at log rid) refl stands where
  writer : (rec : Option LogRec) → is_write_at rid rec ≡ true → (txn : ℕ) × (is_write_of txn rec ≡ true)
  writer None e = absurd (false≢true e)
  writer (Some (Write t r row)) e = (t, eq-eqb t t refl)
  writer (Some (Undo t k)) e = absurd (false≢true e)
  writer (Some (Commit t)) e = absurd (false≢true e)
  writer (Some (Switch o)) e = absurd (false≢true e)

  by : (o : Option ℕ) → newest_at log rid ≡ o → row_at log o ≡ Some cells → (txn : ℕ) × (wrote log txn rid ≡ true)
  by None e none = absurd (cc)
  by (Some n) e some =
      let there = newest_there log rid n e in
      let w = writer (record_at log n) there in
      (w.0, wrote_from log w.0 rid n w.1 there)

pub rows_are_inside : (log : List LogRec) → RowsAreInside log
rows_are_inside log = record {
  page = λ rid cells stands. let w = live_written log rid cells stands in (written_inside log w.0 rid w.1).0;
  slot = λ rid cells stands. let w = live_written log rid cells stands in (written_inside log w.0 rid w.1).1;
}

-- nothing is where nobody wrote
unwritten_slot : (log : List LogRec) (rid : Rid) → ((txn : ℕ) → wrote log txn rid ≡ true → ⊥) → slot_of log rid ≡ free
unwritten_slot log rid never =
    let live : live_at log rid ≡ None = elim (some_or_none (live_at log rid)) [
      | inl none ↦ none
      | inr some ↦ let w = live_written log rid some.0 some.1 in absurd (never w.0 w.1)
    ] in
    let nobody : holder log rid ≡ None = elim (some_or_none (holder log rid)) [
      | inl none ↦ none
      | inr some ↦ absurd (never some.0 (holder_wrote log rid some.0 some.1).1)
    ] in
    rw (nobody, live) refl

pub slot_past : (log : List LogRec) (rid : Rid) → slots_written log rid.page ≤ rid.slot → slot_of log rid ≡ free
slot_past log rid past = unwritten_slot log rid (λ txn e. let inside = (written_inside log txn rid e).1 in absurd (omega (arith, inside, past)))

-- a free slot has no row and no holder
pub slot_free : (log : List LogRec) (rid : Rid) → slot_of log rid ≡ free → (live_at log rid ≡ None) × (holder log rid ≡ None)
slot_free log rid e = by (live_at log rid) (holder log rid) _ e where
  by : (cells : Option (List Cell)) (h : Option ℕ) (reserve : ℕ) → slot_with cells h reserve ≡ free → (cells ≡ None) × (h ≡ None)
  by None None reserve f = (refl, refl)
  by None (Some txn) reserve f = absurd (cc)
  by (Some cells) h reserve f = absurd (cc)

-- a write puts its row at its RID, and nothing else changes
pub write_sets : (log new : List LogRec) (txn : ℕ) (rid : Rid) (row : Option (List Cell)) → Grows log (Write txn rid row) new → SetsRow log rid row new
write_sets log new txn rid row added = record {
  here = added.live.live rid ∙ cond-true (same_rid rid rid) row (live_at log rid) (same_rid-refl rid);
  elsewhere = λ other differs.
      added.live.live other
      ∙ cond-false (same_rid rid other) row (live_at log other) (false_from_ne_true (same_rid rid other) (λ e. differs (sym (same_rid-true rid other e))));
}
