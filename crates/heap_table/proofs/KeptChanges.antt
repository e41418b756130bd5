-- A table keeps what it keeps through each change.
use Rattle.std.proofs.Common.{map, ◌≡◌, ◌≢◌, inl, inr, ℕ, zero, suc, ◌+◌, ◌<◌, ◌≤◌, max, Bool, true, false, List, [], ◌∷◌, ◌++◌, length, Option, Some, None}
use Rattle.std.proofs.Common.{refl, sym, ap, ◌∙◌, arith}
use Rattle.std.specs.Prelude.{◌==◌, ◌&&◌}
use Rattle.std.specs.Option.{option_map}
use Rattle.std.proofs.lemmas.Bool.{cases_Bool, cases_lt, false≢true}
use Rattle.std.proofs.lemmas.Bool.Decides.{nat_tests}
use Rattle.keybytes.specs.Cells.{fits}
use Rattle.keybytes.specs.Rows.{IsRow, row_bytes}
use Rattle.keybytes.specs.declared.cell.Cell.{Cell}
use Rattle.keybytes.specs.declared.kind.Kind.{Kind}
use Rattle.keybytes.specs.declared.rid.Rid.{Rid}
use Rattle.heap_log.specs.declared.outcome.Outcome.{Outcome}
use Rattle.heap_log.specs.declared.record.LogRec.{LogRec}
use Rattle.heap_log.specs.declared.record.LogRec.TheVariants.{Write, Undo, Commit, Switch}
use Rattle.heap_log.specs.Standing.{record_at, row_of, rid_of, is_write_at, row_at, standing_before, standing_count}
use Rattle.heap_log.proofs.Numbers.{write_at, newest_standing-of}
use Rattle.slotted_page.specs.Slot.{Slot}
use Rattle.slotted_page.specs.Page.{PageValue}
use Rattle.heap_table.specs.Limits.{slots_most}
use Rattle.heap_table.specs.HeapState.{HeapState, is_open, are_limits, without, mark, still_open}
use Rattle.heap_table.specs.Holders.{wrote, holder}
use Rattle.heap_table.specs.Kept.{IsKept, WritesFit}
use Rattle.heap_table.specs.PageLists.{PagesValue, slot_in, with_slot_in, pages_by, changed, settled_if}
use Rattle.heap_table.specs.Pages.{page_end, slot_end, slots_written, pages_written, slot_under, slot_of, SetsRow}
use Rattle.heap_table.specs.Ready.{HaveWritten}
use Rattle.heap_table.specs.Sound.{IsSound, UndoFits}
use Rattle.heap_log.proofs.Growing.{Grows}
use Rattle.keybytes.proofs.SameRids.{same_rid-refl}
use Rattle.std.proofs.Math.Nat.{max-zero}
use Rattle.std.proofs.lemmas.Option.{none-some}
use Rattle.heap_table.proofs.Holding.{holder_wrote}
use Rattle.heap_table.proofs.KeptFacts.{kept_slot}
use Rattle.heap_table.proofs.LogRows.{slots_written-added, pages_written-added, slots_past, end_here, written_inside, length_grown}
use Rattle.heap_table.proofs.OpenOnes.{open_without_self, open_without_other, without_fewer, open_marked}
use Rattle.heap_table.proofs.PageLists.{pages_by_same, pages_by_changed, pages_by_inside}
use Rattle.heap_table.proofs.Slots.{under_kept, Wrote, write_slot, write_other_slot}
use Rattle.heap_table.proofs.Sounds.{wrote_still, sound_commit, sound_switch}
use Rattle.heap_table.proofs.Undoing.{ended_slot, going_slot, fits_quiet, fits_write, fits_undo, Undid, undo_there, undo_live, undo_other_live, undo_slot}
use Rattle.heap_table.proofs.Undoing.{undo_other_slot}
use Rattle.heap_table.proofs.Writers.{wrote_from}

-- a record of a row that fits, or of none, leaves rows that fit
written_at : (rec : Option LogRec) (cells : List Cell) → row_of rec ≡ Some cells → is_write_at (rid_of rec) rec ≡ true
written_at None cells e = absurd (cc)
written_at (Some (Write t rid row)) cells e = same_rid-refl rid
written_at (Some (Undo t n)) cells e = absurd (cc)
written_at (Some (Commit t)) cells e = absurd (cc)
written_at (Some (Switch o)) cells e = absurd (cc)

fit_added :
    (kinds : List Kind) (log new : List LogRec) (rec : LogRec) → Grows log rec new
    → ((cells : List Cell) → row_of (Some rec) ≡ Some cells → IsRow cells × (fits kinds cells ≡ true)) → WritesFit kinds log → WritesFit kinds new
fit_added kinds log new rec added fit old = λ n cells e.
    let count : length new ≡ length log + 1 = length_grown log new rec added in
    let high = (write_at new (rid_of (record_at new n)) n (written_at (record_at new n) cells e)).high in
    elim (cases_lt (length log) n) [
      | inl last ↦
          let n_is : n ≡ length log + 1 = omega (arith, last, high, count) in
          fit cells (sym (ap row_of (ap (record_at new) n_is ∙ added.numbers.here)) ∙ e)
      | inr within ↦ old n cells (sym (ap row_of (added.numbers.earlier n (omega (arith, within)))) ∙ e)
    ]

-- the same rows and pages
pub kept_same :
    (s t : HeapState) (p q : PagesValue) → t.log ≡ s.log → t.schema ≡ s.schema → t.slot_limit ≡ s.slot_limit → t.page_limit ≡ s.page_limit
    → q.pages ≡ p.pages → q.limit ≡ p.limit → IsSound t → IsKept s p → IsKept t q
kept_same s t p q log schema slots limit pages pages_limit sound kept = record {
  pages_are = pages ∙ (kept.pages_are ∙ sym (rw (log, slots) refl));
  limit = pages_limit ∙ (kept.limit ∙ sym slots);
  writes_fit = rw (log, schema) kept.writes_fit;
  sound = sound;
  undo_fits = rw log kept.undo_fits;
  limits = rw (slots, limit) kept.limits;
  slots_below = rw slots kept.slots_below;
  within = rw (log, limit) kept.within;
}

end_other : (page : ℕ) (rid : Rid) (txn : ℕ) (cells : Option (List Cell)) → page ≢ rid.page → slot_end page (Write txn rid cells) ≡ 0
end_other page rid txn cells other = grind (arith, nat_tests)

-- a write changes one slot
pub kept_write :
    (s t : HeapState) (p q : PagesValue) (txn : ℕ) (rid : Rid) (row : Option (List Cell)) → IsKept s p → Wrote s t txn rid row
    → t.schema ≡ s.schema → t.slot_limit ≡ s.slot_limit → t.page_limit ≡ s.page_limit → rid.page ≤ pages_written s.log → rid.slot ≤ slots_written s.log rid.page
    → rid.page < s.page_limit
    → ((cells : List Cell) → row ≡ Some cells → IsRow cells × (fits s.schema cells ≡ true))
    → q.pages ≡ with_slot_in p.pages p.limit rid (changed (slot_in p.pages rid) (option_map row_bytes row)) → q.limit ≡ p.limit
    → IsKept t q
kept_write s t p q txn rid row kept w schema slots limit in_pages in_slots below fit pages pages_limit =
    let rec : LogRec = Write txn rid row in
    let pages_grown : pages_written t.log ≡ max (pages_written s.log) (rid.page + 1) = ap pages_written w.added.is ∙ pages_written-added s.log rec in
    let grown : slots_written t.log rid.page ≡ max (slots_written s.log rid.page) (rid.slot + 1) =
    ap (λ (l : List LogRec). slots_written l rid.page) w.added.is
    ∙ (slots_written-added s.log rec rid.page ∙ ap (max (slots_written s.log rid.page)) (end_here rid.page rid.slot txn row)) in
    let others : (page : ℕ) → page ≢ rid.page → slots_written t.log page ≡ slots_written s.log page =
    λ page differs. ap (λ (l : List LogRec). slots_written l page) w.added.is
    ∙ (slots_written-added s.log rec page ∙ (ap (max (slots_written s.log page)) (end_other page rid txn row differs) ∙ max-zero (slots_written s.log page))) in
    let slot : changed (slot_in p.pages rid) (option_map row_bytes row) ≡ slot_of t.log rid =
    ap (λ (x : Slot). changed x (option_map row_bytes row)) (kept_slot s p rid kept) ∙ sym (write_slot s t txn rid row w) in
    record {
      pages_are =
          pages ∙ (ap (with_slot_in p.pages p.limit rid) slot
          ∙ (ap (λ (n : ℕ). with_slot_in p.pages n rid (slot_of t.log rid)) kept.limit
          ∙ (ap (λ (ps : List PageValue). with_slot_in ps s.slot_limit rid (slot_of t.log rid)) kept.pages_are
          ∙ (pages_by_changed (slot_of s.log) (slot_of t.log) (slots_written s.log) (slots_written t.log) (pages_written s.log) (pages_written t.log)
          s.slot_limit rid (λ other differs. write_other_slot s t txn rid row w other differs) in_pages in_slots pages_grown grown others (slots_past s.log)
          ∙ ap (pages_by (slot_of t.log) (slots_written t.log) (pages_written t.log)) (sym slots)))));
      limit = pages_limit ∙ (kept.limit ∙ sym slots);
      writes_fit = rw schema (fit_added s.schema s.log t.log rec w.added fit kept.writes_fit);
      sound = w.sound;
      undo_fits = fits_write s t txn rid row w kept.undo_fits;
      limits = rw (slots, limit) kept.limits;
      slots_below = rw slots kept.slots_below;
      within = rw limit (let old = kept.within in omega (arith, pages_grown, old, below));
    }

-- a record that is no write leaves the numbers of pages and slots
same_counts : (log new : List LogRec) (rec : LogRec) → new ≡ log ++ rec ∷ [] → pages_written (rec ∷ []) ≡ 0 → ((page : ℕ) → slots_written (rec ∷ []) page ≡ 0)
    → (pages_written new ≡ pages_written log) × ((page : ℕ) → slots_written new page ≡ slots_written log page)
same_counts log new rec is pages slots =
    let none : page_end rec ≡ 0 = sym (max-zero (page_end rec)) ∙ pages in (
      ap pages_written is ∙ (pages_written-added log rec ∙ (ap (max (pages_written log)) none ∙ max-zero (pages_written log))),
      λ page.
          let nothing : slot_end page rec ≡ 0 = sym (max-zero (slot_end page rec)) ∙ slots page in
          ap (λ (l : List LogRec). slots_written l page) is
          ∙ (slots_written-added log rec page ∙ (ap (max (slots_written log page)) nothing ∙ max-zero (slots_written log page))),
    )

-- a record that is no write, after which each slot is what the pages have
kept_after :
    (s t : HeapState) (p q : PagesValue) (rec : LogRec) (slot : Rid → Slot) → IsKept s p → IsSound t → UndoFits t.log → Grows s.log rec t.log
    → row_of (Some rec) ≡ None → pages_written (rec ∷ []) ≡ 0 → ((page : ℕ) → slots_written (rec ∷ []) page ≡ 0)
    → t.schema ≡ s.schema → t.slot_limit ≡ s.slot_limit → t.page_limit ≡ s.page_limit
    → q.pages ≡ pages_by slot (slots_written s.log) (pages_written s.log) s.slot_limit → ((rid : Rid) → slot rid ≡ slot_of t.log rid)
    → q.limit ≡ p.limit → IsKept t q
kept_after s t p q rec slot kept sound undo_fits added none no_page no_slot schema slots limit pages same pages_limit =
    let counts = same_counts s.log t.log rec added.is no_page no_slot in
    record {
      pages_are =
          pages ∙ (pages_by_same slot (slot_of t.log) (slots_written s.log) (slots_written t.log) (pages_written s.log) s.slot_limit same
          (λ page. sym (counts.1 page))
          ∙ (ap (λ (n : ℕ). pages_by (slot_of t.log) (slots_written t.log) n s.slot_limit) (sym counts.0)
          ∙ ap (pages_by (slot_of t.log) (slots_written t.log) (pages_written t.log)) (sym slots)));
      limit = pages_limit ∙ (kept.limit ∙ sym slots);
      writes_fit = rw schema (fit_added s.schema s.log t.log rec added (λ cells e. absurd (none-some cells (sym none ∙ e))) kept.writes_fit);
      sound = sound;
      undo_fits = undo_fits;
      limits = rw (slots, limit) kept.limits;
      slots_below = rw slots kept.slots_below;
      within = rw (counts.0, limit) kept.within;
    }

-- a switch leaves every slot
pub kept_switch :
    (s t : HeapState) (p q : PagesValue) (verdicts : List Outcome) → IsKept s p → Grows s.log (Switch verdicts) t.log → t.active ≡ s.active → t.begun ≡ s.begun
    → t.schema ≡ s.schema → t.slot_limit ≡ s.slot_limit → t.page_limit ≡ s.page_limit
    → q.pages ≡ p.pages → q.limit ≡ p.limit → IsKept t q
kept_switch s t p q verdicts kept added active begun schema slots limit pages pages_limit =
    let sound = sound_switch s t verdicts kept.sound added active begun in
    kept_after s t p q (Switch verdicts) (slot_of s.log) kept sound
    (fits_quiet s t (Switch verdicts) kept.sound sound added (λ u r. refl) (λ r. refl) (λ n. refl) (λ n. tt) (λ u e. sym (ap (λ a. is_open a u) active) ∙ e)
    added.live.live kept.undo_fits)
    added refl refl (λ page. refl) schema slots limit (pages ∙ kept.pages_are)
    (λ rid.
    sym (going_slot s t kept.sound sound (λ u. ap (λ a. is_open a u) active) rid (λ u. wrote_still s.log t.log (Switch verdicts) u rid added.is refl)
    ∙ under_kept s.log t.log (Switch verdicts) rid (holder s.log rid) added.is (λ u e. (holder_wrote s.log rid u e).1) (λ u. refl) (added.live.live rid)))
    pages_limit

-- the pages have a slot for each RID that was written
pub have_written : (s : HeapState) (p : PagesValue) (txn : ℕ) (log : List LogRec) → IsKept s p
    → ((rid : Rid) → wrote log txn rid ≡ true → wrote s.log txn rid ≡ true)
    → HaveWritten p log txn (slot_of s.log) (slots_written s.log) (pages_written s.log) s.slot_limit
have_written s p txn log kept same = (kept.pages_are, λ rid e. written_inside s.log txn rid (same rid e))

-- a commit settles the slots that its transaction wrote
pub kept_commit :
    (s t : HeapState) (p q : PagesValue) (txn : ℕ) → IsKept s p → is_open s.active txn ≡ true → Grows s.log (Commit txn) t.log
    → t.active ≡ without txn s.active → t.begun ≡ s.begun → t.schema ≡ s.schema → t.slot_limit ≡ s.slot_limit → t.page_limit ≡ s.page_limit
    → ((slot : Rid → Slot) (slots : ℕ → ℕ) (count limit : ℕ) → p.pages ≡ pages_by slot slots count limit
    → q.pages ≡ pages_by (λ rid. settled_if (wrote t.log txn rid) (slot rid)) slots count limit)
    → q.limit ≡ p.limit → IsKept t q
kept_commit s t p q txn kept opened added active begun schema slots limit settles pages_limit =
    let sound = sound_commit s t txn kept.sound added active begun opened in
    let closed : is_open t.active txn ≡ false = ap (λ a. is_open a txn) active ∙ open_without_self txn s.active in
    let others : (other : ℕ) → other ≢ txn → is_open t.active other ≡ is_open s.active other =
    λ other differs. ap (λ a. is_open a other) active ∙ open_without_other txn other s.active differs in
    kept_after s t p q (Commit txn) (λ rid. settled_if (wrote t.log txn rid) (slot_of s.log rid)) kept sound
    (fits_quiet s t (Commit txn) kept.sound sound added (λ u r. refl) (λ r. refl) (λ n. refl) (λ n. tt)
    (λ u e. without_fewer txn u s.active (sym (ap (λ a. is_open a u) active) ∙ e)) added.live.live kept.undo_fits)
    added refl refl (λ page. refl) schema slots limit
    (settles (slot_of s.log) (slots_written s.log) (pages_written s.log) s.slot_limit kept.pages_are)
    (λ rid.
    ap (settled_if (wrote t.log txn rid)) (sym
    (under_kept s.log t.log (Commit txn) rid (holder s.log rid) added.is (λ u e. (holder_wrote s.log rid u e).1) (λ u. refl) (added.live.live rid)))
    ∙ sym (ended_slot s t txn kept.sound sound opened closed others rid (λ u. wrote_still s.log t.log (Commit txn) u rid added.is refl)))
    pages_limit

-- the pages once the row before is back
undone_pages :
    (s t : HeapState) (p m : PagesValue) (txn n : ℕ) (rid : Rid) → IsKept s p → Undid s t txn n rid
    → m.pages ≡ with_slot_in p.pages p.limit rid (changed (slot_in p.pages rid) (option_map row_bytes (row_at s.log (standing_before s.log n))))
    → m.pages ≡ pages_by (λ r. slot_under (holder s.log r) t.log r) (slots_written s.log) (pages_written s.log) s.slot_limit
undone_pages s t p m txn n rid kept u pages =
    let has : wrote s.log txn rid ≡ true = wrote_from s.log txn rid n (newest_standing-of s.log txn n u.newest) (undo_there s t txn n rid u) in
    let inside = written_inside s.log txn rid has in
    let slot : changed (slot_in p.pages rid) (option_map row_bytes (row_at s.log (standing_before s.log n))) ≡ slot_under (holder s.log rid) t.log rid =
    ap (λ (x : Slot). changed x (option_map row_bytes (row_at s.log (standing_before s.log n)))) (kept_slot s p rid kept) ∙ sym (undo_slot s t txn n rid u) in
    pages ∙ (ap (with_slot_in p.pages p.limit rid) slot
    ∙ (ap (λ (ps : List PageValue). with_slot_in ps p.limit rid (slot_under (holder s.log rid) t.log rid)) kept.pages_are
    ∙ pages_by_inside (slot_of s.log) (λ r. slot_under (holder s.log r) t.log r) (slots_written s.log) (pages_written s.log) s.slot_limit rid
    (λ other differs. undo_other_slot s t txn n rid u other differs) inside.0 inside.1 p.limit))

-- an undo puts the row before back, and settles the slots that its transaction wrote where no write of it is left
pub kept_undo :
    (s t : HeapState) (p m q : PagesValue) (txn n : ℕ) (rid : Rid) → IsKept s p → Undid s t txn n rid
    → t.active ≡ still_open txn (standing_count t.log txn) s.active
    → t.schema ≡ s.schema → t.slot_limit ≡ s.slot_limit → t.page_limit ≡ s.page_limit
    → m.pages ≡ with_slot_in p.pages p.limit rid (changed (slot_in p.pages rid) (option_map row_bytes (row_at s.log (standing_before s.log n))))
    → m.limit ≡ p.limit
    → ((slot : Rid → Slot) (slots : ℕ → ℕ) (count limit : ℕ) → m.pages ≡ pages_by slot slots count limit
    → q.pages ≡ pages_by (λ r. settled_if ((standing_count t.log txn == 0) && wrote t.log txn r) (slot r)) slots count limit)
    → q.limit ≡ m.limit → IsKept t q
kept_undo s t p m q txn n rid kept u active schema slots limit pages m_limit settles q_limit =
    kept_after s t p q (Undo txn n) (λ r. settled_if ((left == 0) && wrote t.log txn r) (mid r)) kept u.sound
    (fits_undo s t txn n rid u) u.added refl refl (λ page. refl) schema slots limit
    (settles mid (slots_written s.log) (pages_written s.log) s.slot_limit (undone_pages s t p m txn n rid kept u pages))
    (λ r. by_left r) (q_limit ∙ m_limit) where
      left : ℕ
      left = standing_count t.log txn

      mid : Rid → Slot
      mid r = slot_under (holder s.log r) t.log r

      written : (r : Rid) (other : ℕ) → wrote t.log other r ≡ wrote s.log other r
      written r other = wrote_still s.log t.log (Undo txn n) other r u.added.is refl

      by_left : (r : Rid) → settled_if ((left == 0) && wrote t.log txn r) (mid r) ≡ slot_of t.log r
      by_left r = elim (cases_Bool (left == 0)) [
        | inl ended ↦
            let active_is : t.active ≡ without txn s.active = active ∙ (rw ended refl) in
            let closed : is_open t.active txn ≡ false = ap (λ a. is_open a txn) active_is ∙ open_without_self txn s.active in
            let others : (other : ℕ) → other ≢ txn → is_open t.active other ≡ is_open s.active other =
            λ other differs. ap (λ a. is_open a other) active_is ∙ open_without_other txn other s.active differs in
            ap (λ (b : Bool). settled_if (b && wrote t.log txn r) (mid r)) ended
            ∙ sym (ended_slot s t txn kept.sound u.sound u.opened closed others r (written r))
        | inr more ↦
            let active_is : t.active ≡ map (mark txn) s.active = active ∙ (rw more refl) in
            ap (λ (b : Bool). settled_if (b && wrote t.log txn r) (mid r)) more
            ∙ sym (going_slot s t kept.sound u.sound (λ other. ap (λ a. is_open a other) active_is ∙ open_marked txn other s.active) r (written r))
      ]

pub undo_sets :
    (s t : HeapState) (txn n : ℕ) (rid : Rid) → Undid s t txn n rid → SetsRow s.log rid (row_at s.log (standing_before s.log n)) t.log
undo_sets s t txn n rid u = record {
  here = undo_live s t txn n rid u;
  elsewhere = λ other differs. undo_other_live s t txn n rid u other differs;
}

-- a table with nothing in it
pub kept_empty :
    (s : HeapState) (p : PagesValue) → s.log ≡ [] → s.active ≡ [] → p.pages ≡ [] → p.limit ≡ s.slot_limit
    → are_limits s.slot_limit s.page_limit ≡ true → s.slot_limit ≤ slots_most → IsKept s p
kept_empty s p empty none pages pages_limit limits below = record {
  pages_are = pages ∙ sym (rw empty refl);
  limit = pages_limit;
  writes_fit = rw empty (λ n cells e. absurd (no_record n cells e));
  sound = record {
    writers = λ txn rid. rw empty (λ e. absurd (false≢true e));
    committers = λ txn. rw empty (λ e. absurd (false≢true e));
    openers = λ txn. rw none (λ e. absurd (false≢true e));
    uncommitted = λ txn. rw none (λ e. absurd (false≢true e));
    busy = λ txn rid. rw empty (λ e. absurd (false≢true e));
    held = λ txn n m rid. rw none (λ e. absurd (false≢true e));
  };
  undo_fits = rw empty (record {
    live = λ rid. omega arith;
    before = λ txn n rid e. absurd (cc);
  });
  limits = limits;
  slots_below = below;
  within = rw empty (omega arith);
} where
  no_record : (n : ℕ) (cells : List Cell) → row_of (record_at [] n) ≡ Some cells → ⊥
  no_record zero cells e = cc
  no_record (suc n) cells e = cc

-- the pages after the row before is back have a slot for each write
pub undo_inside :
    (s t : HeapState) (p m : PagesValue) (txn n : ℕ) (rid : Rid) → IsKept s p → Undid s t txn n rid
    → m.pages ≡ with_slot_in p.pages p.limit rid (changed (slot_in p.pages rid) (option_map row_bytes (row_at s.log (standing_before s.log n))))
    → HaveWritten m t.log txn (λ r. slot_under (holder s.log r) t.log r) (slots_written s.log) (pages_written s.log) s.slot_limit
undo_inside s t p m txn n rid kept u pages =
    (undone_pages s t p m txn n rid kept u pages, λ r e. written_inside s.log txn r (sym (wrote_still s.log t.log (Undo txn n) txn r u.added.is refl) ∙ e))
