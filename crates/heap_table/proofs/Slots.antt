-- What the slots of a table have once a record is added.
use Rattle.std.proofs.Common.{◌≡◌, ◌≢◌, inl, inr, ℕ, max, true, false, List, [], ◌∷◌, ◌++◌, Option, Some, None, refl, sym, ap, ◌∙◌}
use Rattle.std.proofs.Math.Bool.{and-false, or-true}
use Rattle.std.specs.Prelude.{◌==◌}
use Rattle.std.specs.Option.{option_map}
use Rattle.std.proofs.lemmas.Bool.{cases_Bool, eqb-true, eq-eqb, and_from}
use Rattle.keybytes.specs.Rows.{row_bytes}
use Rattle.keybytes.specs.declared.cell.Cell.{Cell}
use Rattle.keybytes.specs.declared.rid.Rid.{Rid}
use Rattle.heap_log.specs.declared.record.LogRec.{LogRec}
use Rattle.heap_log.specs.declared.record.LogRec.TheVariants.{Write}
use Rattle.keybytes.specs.Rids.{same_rid}
use Rattle.heap_log.specs.Standing.{is_write_of, is_write_at, rid_of, live_at}
use Rattle.slotted_page.specs.Slot.{held, reserve_of}
use Rattle.heap_table.specs.HeapState.{HeapState, is_open, held_refusal}
use Rattle.heap_table.specs.Holders.{writes, wrote, holder, row_size, before_first, size_written, greatest_written, room_held_by, room_needed}
use Rattle.heap_table.specs.PageLists.{changed}
use Rattle.heap_table.specs.Pages.{slot_with, slot_under, slot_of}
use Rattle.heap_table.specs.Sound.{IsSound}
use Rattle.heap_log.proofs.Growing.{Grows}
use Rattle.keybytes.proofs.SameRids.{same_rid-refl}
use Rattle.heap_log.proofs.Records.{writes_there, some_place-by}
use Rattle.std.proofs.Math.Nat.{max-zero, zero-max}
use Rattle.std.proofs.lemmas.Option.{none-some}
use Rattle.heap_table.proofs.Holding.{holder_is, holder_open, holder_wrote, same_holder}
use Rattle.heap_table.proofs.Sounds.{wrote_then, wrote_still, busy_write, free_for}
use Rattle.heap_table.proofs.Writers.{greatest_written-added, before_first_kept, before_first_next, greatest_none}
use Rattle.heap_table.proofs.Small.{max_turned, same_rid_other, some_or_none}

-- a write is at its RID
pub at_its_rid : (txn : ℕ) (rec : Option LogRec) → is_write_of txn rec ≡ true → is_write_at (rid_of rec) rec ≡ true
at_its_rid txn rec e = writes_there rec (some_place-by txn rec e)

-- the reserve of a RID's slot
pub reserve_slot : (log : List LogRec) (rid : Rid) → reserve_of (slot_of log rid) ≡ room_needed log rid
reserve_slot log rid = by (live_at log rid) (holder log rid) refl where
  by : (cells : Option (List Cell)) (h : Option ℕ) → live_at log rid ≡ cells → reserve_of (slot_with cells h (room_held_by h log rid)) ≡ room_held_by h log rid
  by None None live = sym (ap row_size live)
  by None (Some txn) live = refl
  by (Some cells) h live = refl

-- the bytes that a holder keeps at a RID stay with a record that is no write of it there
pub room_kept :
    (log new : List LogRec) (rec : LogRec) (rid : Rid) (txn : ℕ) → new ≡ log ++ rec ∷ [] → wrote log txn rid ≡ true → writes txn rid rec ≡ false
    → room_held_by (Some txn) new rid ≡ room_held_by (Some txn) log rid
room_kept log new rec rid txn is has none =
    let first : before_first txn rid new ≡ before_first txn rid log = ap (before_first txn rid) is ∙ before_first_kept txn rid log (rec ∷ []) has in
    let none_here : size_written txn rid rec ≡ 0 = rw none refl in
    let greatest : greatest_written txn rid new ≡ greatest_written txn rid log =
    ap (greatest_written txn rid) is ∙ (greatest_written-added txn rid log rec
    ∙ (ap (max (greatest_written txn rid log)) none_here ∙ max-zero (greatest_written txn rid log))) in
    rw (first, greatest) refl

-- the slot under a holder that wrote there stays with such a record, where the same row stands
pub under_kept :
    (log new : List LogRec) (rec : LogRec) (rid : Rid) (h : Option ℕ) → new ≡ log ++ rec ∷ [] → ((txn : ℕ) → h ≡ Some txn → wrote log txn rid ≡ true)
    → ((txn : ℕ) → writes txn rid rec ≡ false) → live_at new rid ≡ live_at log rid → slot_under h new rid ≡ slot_under h log rid
under_kept log new rec rid None is has none live = rw live refl
under_kept log new rec rid (Some txn) is has none live = rw (live, room_kept log new rec rid txn is (has txn refl) (none txn)) refl

writes_other : (txn u : ℕ) (rid other : Rid) (row : Option (List Cell)) → other ≢ rid → writes u other (Write txn rid row) ≡ false
writes_other txn u rid other row differs = rw (same_rid_other rid other differs) (and-false (txn == u))

writes_here : (txn : ℕ) (rid : Rid) (row : Option (List Cell)) → writes txn rid (Write txn rid row) ≡ true
writes_here txn rid row = and_from (txn == txn) (same_rid rid rid) (eq-eqb txn txn refl) (same_rid-refl rid)

-- a transaction writes at a RID
pub record Wrote (s t : HeapState) (txn : ℕ) (rid : Rid) (row : Option (List Cell)) : Type 0 where
  pub was : IsSound s
  pub sound : IsSound t
  pub added : Grows s.log (Write txn rid row) t.log
  pub active : t.active ≡ s.active
  pub opened : is_open s.active txn ≡ true
  pub free_for : held_refusal txn (holder s.log rid) ≡ None

pub write_holder : (s t : HeapState) (txn : ℕ) (rid : Rid) (row : Option (List Cell)) → Wrote s t txn rid row → holder t.log rid ≡ Some txn
write_holder s t txn rid row w =
    holder_is t w.sound rid txn (ap (λ a. is_open a txn) w.active ∙ w.opened)
    (wrote_then s.log t.log (Write txn rid row) txn rid w.added.is ∙ rw (writes_here txn rid row) (or-true (wrote s.log txn rid)))

pub write_other_holder : (s t : HeapState) (txn : ℕ) (rid : Rid) (row : Option (List Cell)) → Wrote s t txn rid row → (other : Rid) → other ≢ rid
    → holder t.log other ≡ holder s.log other
write_other_holder s t txn rid row w other differs =
    same_holder s t w.was w.sound other (λ u. wrote_still s.log t.log (Write txn rid row) u other w.added.is (writes_other txn u rid other row differs))
    (λ u has. busy_write s t txn rid row w.was w.added w.opened u ∙ (elim (cases_Bool (txn == u)) [
      | inl same ↦ rw same (sym (w.was.busy u other has ∙ (ap (is_open s.active) (sym (eqb-true txn u same)) ∙ w.opened)))
      | inr apart ↦ rw apart refl
    ]))

pub write_live : (s t : HeapState) (txn : ℕ) (rid : Rid) (row : Option (List Cell)) → Wrote s t txn rid row → live_at t.log rid ≡ row
write_live s t txn rid row w = w.added.live.live rid ∙ rw (same_rid-refl rid) refl

pub write_other_live : (s t : HeapState) (txn : ℕ) (rid : Rid) (row : Option (List Cell)) → Wrote s t txn rid row → (other : Rid) → other ≢ rid
    → live_at t.log other ≡ live_at s.log other
write_other_live s t txn rid row w other differs = w.added.live.live other ∙ rw (same_rid_other rid other differs) refl

pub write_room : (s t : HeapState) (txn : ℕ) (rid : Rid) (row : Option (List Cell)) → Wrote s t txn rid row
    → room_needed t.log rid ≡ max (room_needed s.log rid) (row_size row)
write_room s t txn rid row w =
    let rec : LogRec = Write txn rid row in
    let size_is : size_written txn rid rec ≡ row_size row = rw (writes_here txn rid row) refl in
    let greatest : greatest_written txn rid t.log ≡ max (greatest_written txn rid s.log) (row_size row) =
    ap (greatest_written txn rid) w.added.is ∙ (greatest_written-added txn rid s.log rec ∙ ap (max (greatest_written txn rid s.log)) size_is) in
    ap (λ (h : Option ℕ). room_held_by h t.log rid) (write_holder s t txn rid row w) ∙ (elim (some_or_none (holder s.log rid)) [
      | inl none ↦
          let fresh : wrote s.log txn rid ≡ false = elim (cases_Bool (wrote s.log txn rid)) [
            | inl has ↦ absurd (none-some txn (sym none ∙ holder_is s w.was rid txn w.opened has))
            | inr fresh ↦ fresh
          ] in
          let first : before_first txn rid t.log ≡ s.log =
          ap (before_first txn rid) w.added.is ∙ before_first_next txn rid s.log rec fresh (writes_here txn rid row) in
          let nothing : greatest_written txn rid s.log ≡ 0 = greatest_none txn rid s.log fresh in
          rw (first, greatest, nothing, none) (ap (max (row_size (live_at s.log rid))) (zero-max (row_size row)))
      | inr some ↦
          let by = holder_wrote s.log rid some.0 some.1 in
          let same : some.0 ≡ txn = free_for s w.was txn some.0 rid w.free_for (holder_open s w.was rid some.0 some.1) by.1 in
          let held_by : holder s.log rid ≡ Some txn = some.1 ∙ ap Some same in
          let has : wrote s.log txn rid ≡ true = ap (λ (u : ℕ). wrote s.log u rid) (sym same) ∙ by.1 in
          let first : before_first txn rid t.log ≡ before_first txn rid s.log =
          ap (before_first txn rid) w.added.is ∙ before_first_kept txn rid s.log (rec ∷ []) has in
          rw (first, greatest, held_by) (max_turned (row_size (live_at (before_first txn rid s.log) rid)) (greatest_written txn rid s.log) (row_size row))
    ])

-- the slot of the RID that was written
pub write_slot : (s t : HeapState) (txn : ℕ) (rid : Rid) (row : Option (List Cell)) → Wrote s t txn rid row
    → slot_of t.log rid ≡ changed (slot_of s.log rid) (option_map row_bytes row)
write_slot s t txn rid row w =
    ap (λ (h : Option ℕ). slot_with (live_at t.log rid) h (room_needed t.log rid)) (write_holder s t txn rid row w)
    ∙ (ap (λ (cells : Option (List Cell)). slot_with cells (Some txn) (room_needed t.log rid)) (write_live s t txn rid row w)
    ∙ (ap (slot_with row (Some txn)) (write_room s t txn rid row w ∙ ap (λ (n : ℕ). max n (row_size row)) (sym (reserve_slot s.log rid))) ∙ by row)) where
      by : (cells : Option (List Cell)) → slot_with cells (Some txn) (max (reserve_of (slot_of s.log rid)) (row_size cells))
          ≡ changed (slot_of s.log rid) (option_map row_bytes cells)
      by None = ap held (max-zero (reserve_of (slot_of s.log rid)))
      by (Some cells) = refl

-- the slots of the others
pub write_other_slot : (s t : HeapState) (txn : ℕ) (rid : Rid) (row : Option (List Cell)) → Wrote s t txn rid row → (other : Rid) → other ≢ rid
    → slot_of t.log other ≡ slot_of s.log other
write_other_slot s t txn rid row w other differs =
    ap (λ (h : Option ℕ). slot_under h t.log other) (write_other_holder s t txn rid row w other differs)
    ∙ under_kept s.log t.log (Write txn rid row) other (holder s.log other) w.added.is (λ u e. (holder_wrote s.log other u e).1)
    (λ u. writes_other txn u rid other row differs) (write_other_live s t txn rid row w other differs)
