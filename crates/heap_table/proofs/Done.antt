-- What a table keeps once a ready change is done.
use Rattle.std.proofs.Common.{◌≡◌, ◌++◌, ◌∷◌, [], ℕ, List, Option, Some, None, refl, sym, ap, subst}
use Rattle.std.specs.Prelude.{◌&&◌, ◌==◌}
use Rattle.std.specs.Option.{option_map}
use Rattle.keybytes.specs.Rows.{row_bytes}
use Rattle.keybytes.specs.declared.rid.Rid.{Rid}
use Rattle.heap_log.specs.Growing.{UndoesNameEarlier}
use Rattle.heap_log.specs.declared.record.LogRec.{LogRec}
use Rattle.heap_log.specs.declared.record.LogRec.TheVariants.{Write, Undo}
use Rattle.heap_log.specs.Standing.{record_at, rid_of, row_at, standing_before, standing_count}
use Rattle.slotted_page.specs.Slot.{Slot}
use Rattle.slotted_page.specs.Page.{PageValue}
use Rattle.heap_table.specs.declared.ready.Ready.{Ready}
use Rattle.heap_table.specs.HeapState.{HeapState, still_open}
use Rattle.heap_table.specs.HeapValue.{HeapValue}
use Rattle.heap_table.specs.Holders.{wrote, holder}
use Rattle.heap_table.specs.Kept.{IsKept}
use Rattle.heap_table.specs.PageLists.{PagesValue, slot_in, with_slot_in, pages_by, changed, settled_if}
use Rattle.heap_table.specs.Pages.{SetsRow, slot_under, slots_written, pages_written}
use Rattle.heap_table.specs.Ready.{IsReady, HaveWritten, after_change, after_ready}
use Rattle.heap_log.proofs.Growing.{Grows, grows, names_more}
use Rattle.heap_log.proofs.Numbers.{newest_standing-write}
use Rattle.heap_table.proofs.LogRows.{write_sets}
use Rattle.heap_table.proofs.KeptChanges.{kept_write, kept_undo, undo_sets, undo_inside}
use Rattle.heap_table.proofs.Performing.{can_change, lawful_as, undid_from, undone_row}
use Rattle.heap_table.proofs.Sounds.{sound_write}
use Rattle.heap_table.proofs.Undoing.{Undid}

-- the pages have the new row of a ready change in its slot
abbrev pub HaveNew : List PageValue → ℕ → Ready → List PageValue → Type 0
HaveNew old limit ready new = new ≡ with_slot_in old limit ready.rid (changed (slot_in old ready.rid) (option_map row_bytes ready.new))

-- a write
pub kept_performed :
    (h : HeapValue) (t : HeapState) (p q : PagesValue) (ready : Ready) → IsReady h ready → IsKept h.state p → ready.undone ≡ None
    → Grows h.state.log (Write ready.txn ready.rid ready.new) t.log → t.active ≡ h.state.active → t.begun ≡ h.state.begun
    → t.schema ≡ h.state.schema → t.slot_limit ≡ h.state.slot_limit → t.page_limit ≡ h.state.page_limit
    → HaveNew p.pages p.limit ready q.pages → q.limit ≡ p.limit → IsKept t q
kept_performed h t p q ready is_ready kept write added active begun schema slots limit pages pages_limit =
    let can = can_change h.state p ready.txn ready.rid ready.old ready.new kept is_ready.old is_ready.new (lawful_as h ready None is_ready write) in
    kept_write h.state t p q ready.txn ready.rid ready.new kept (record {
      was = kept.sound;
      sound = sound_write h.state t ready.txn ready.rid ready.new kept.sound added active begun can.opened can.free_for;
      added = added;
      active = active;
      opened = can.opened;
      free_for = can.free_for;
    }) schema slots limit can.page can.slot can.below can.fit pages pages_limit

-- an undo
pub kept_undone :
    (h : HeapValue) (t : HeapState) (p m q : PagesValue) (ready : Ready) (n : ℕ) → IsReady h ready → IsKept h.state p → ready.undone ≡ Some n
    → Grows h.state.log (Undo ready.txn n) t.log → t.active ≡ still_open ready.txn (standing_count t.log ready.txn) h.state.active → t.begun ≡ h.state.begun
    → t.schema ≡ h.state.schema → t.slot_limit ≡ h.state.slot_limit → t.page_limit ≡ h.state.page_limit
    → HaveNew p.pages p.limit ready m.pages → m.limit ≡ p.limit
    → ((slot : Rid → Slot) (slots : ℕ → ℕ) (count limit : ℕ) → m.pages ≡ pages_by slot slots count limit
    → q.pages ≡ pages_by (λ r. settled_if ((standing_count t.log ready.txn == 0) && wrote t.log ready.txn r) (slot r)) slots count limit)
    → q.limit ≡ m.limit → IsKept t q
kept_undone h t p m q ready n is_ready kept undone added active begun schema slots limit pages m_limit settles q_limit =
    kept_undo h.state t p m q ready.txn n ready.rid kept (undid_from h t p ready n is_ready kept undone added active begun) active schema slots limit
    (undone_row h ready n p.pages m.pages p.limit is_ready undone pages) m_limit settles q_limit

-- the table once the undo is in its log
abbrev logged_undo : HeapState → Ready → List LogRec → HeapState
logged_undo s ready new = record s { log = new; active = still_open ready.txn (standing_count new ready.txn) s.active }

logged_undid :
    (h : HeapValue) (p : PagesValue) (ready : Ready) (n : ℕ) (new : List LogRec) → IsReady h ready → IsKept h.state p → ready.undone ≡ Some n
    → Grows h.state.log (Undo ready.txn n) new → Undid h.state (logged_undo h.state ready new) ready.txn n ready.rid
logged_undid h p ready n new is_ready kept undone added = undid_from h (logged_undo h.state ready new) p ready n is_ready kept undone added refl refl

-- its pages then have a slot for each write
pub undone_inside :
    (h : HeapValue) (p m : PagesValue) (ready : Ready) (n : ℕ) (new : List LogRec) → IsReady h ready → IsKept h.state p → ready.undone ≡ Some n
    → Grows h.state.log (Undo ready.txn n) new → HaveNew p.pages p.limit ready m.pages
    → (slot : Rid → Slot) × (slots : ℕ → ℕ) × (count : ℕ) × (limit : ℕ) × HaveWritten m new ready.txn slot slots count limit
undone_inside h p m ready n new is_ready kept undone added pages = (
  (λ (r : Rid). slot_under (holder h.state.log r) new r),
  slots_written h.state.log,
  pages_written h.state.log,
  h.state.slot_limit,
  undo_inside h.state (logged_undo h.state ready new) p m ready.txn n ready.rid kept (logged_undid h p ready n new is_ready kept undone added)
      (undone_row h ready n p.pages m.pages p.limit is_ready undone pages),
)

-- and the row before the write is back
pub undone_sets :
    (h : HeapValue) (p : PagesValue) (ready : Ready) (n : ℕ) (new : List LogRec) → IsReady h ready → IsKept h.state p → ready.undone ≡ Some n
    → Grows h.state.log (Undo ready.txn n) new → SetsRow h.state.log (rid_of (record_at h.state.log n)) (row_at h.state.log (standing_before h.state.log n)) new
undone_sets h p ready n new is_ready kept undone added =
    subst (λ (r : Rid). SetsRow h.state.log r (row_at h.state.log (standing_before h.state.log n)) new) (lawful_as h ready (Some n) is_ready undone).2
    (undo_sets h.state (logged_undo h.state ready new) ready.txn n ready.rid (logged_undid h p ready n new is_ready kept undone added))

-- a ready change puts its row at its RID, and nothing else changes
pub change_sets :
    (h : HeapValue) (p : PagesValue) (ready : Ready) → IsReady h ready → IsKept h.state p → UndoesNameEarlier h.state.log
    → SetsRow h.state.log ready.rid ready.new (after_ready h.state ready).log
change_sets h p ready is kept names = by_undone ready.undone refl where
  log : List LogRec
  log = h.state.log

  leaves : (o : Option ℕ) → ready.undone ≡ o → (after_ready h.state ready).log ≡ (after_change h.state ready.txn ready.rid o ready.new).log
  leaves o same = ap (λ u. (after_change h.state ready.txn ready.rid u ready.new).log) same

  by_undone : (o : Option ℕ) → ready.undone ≡ o → SetsRow log ready.rid ready.new (after_ready h.state ready).log
  by_undone None none =
      let rec : LogRec = Write ready.txn ready.rid ready.new in
      subst (SetsRow log ready.rid ready.new) (sym (leaves None none))
      (write_sets log (log ++ rec ∷ []) ready.txn ready.rid ready.new (grows _ _ _ (record { records = refl; earlier = names_more log rec names tt })))
  by_undone (Some n) some =
      let lawful = lawful_as h ready (Some n) is some in
      let write = newest_standing-write log ready.txn n lawful.1 in
      let rec : LogRec = Undo ready.txn n in
      let added : Grows log rec (log ++ rec ∷ []) = grows _ _ _ (record { records = refl; earlier = names_more log rec names (write.low, write.high) }) in
      subst (SetsRow log ready.rid ready.new) (sym (leaves (Some n) some))
      (subst (λ row. SetsRow log ready.rid row (log ++ rec ∷ [])) (sym lawful.3)
      (subst (λ rid. SetsRow log rid (row_at log (standing_before log n)) (log ++ rec ∷ [])) (sym lawful.2)
      (undone_sets h p ready n (log ++ rec ∷ []) is kept some added)))
