-- The rows that come back, the slots they come back to, and what is left where a transaction ends.
use Rattle.std.proofs.Common.{◌≡◌, ◌≢◌, inl, inr, ℕ, ◌+◌, ◌≤◌, max, Bool, true, false, List, [], ◌∷◌, ◌++◌, length, Option, Some, None, refl, sym, ap, ◌∙◌}
use Rattle.std.proofs.Common.{subst, arith}
use Rattle.std.proofs.Math.Bool.{or-false}
use Rattle.std.specs.Prelude.{◌||◌, ◌&&◌, not, ◌==◌}
use Rattle.std.specs.Option.{option_map}
use Rattle.std.proofs.lemmas.Bool.{cases_Bool, cases_eq, cases_lt, false≢true, eqb-true, eq-eqb, and_parts, and_from, not-true, or_parts}
use Rattle.std.proofs.lemmas.Option.{same_Some, none-some}
use Rattle.keybytes.specs.Rows.{row_bytes}
use Rattle.keybytes.specs.declared.cell.Cell.{Cell}
use Rattle.keybytes.specs.declared.rid.Rid.{Rid}
use Rattle.heap_log.specs.declared.record.LogRec.{LogRec}
use Rattle.heap_log.specs.declared.record.LogRec.TheVariants.{Write, Undo}
use Rattle.heap_log.specs.Standing.{record_at, is_write_of, is_write_at, is_undo_of, is_number, rid_of, row_of, stands_of, stands_at, undone, newest_standing}
use Rattle.heap_log.specs.Standing.{newest_at, standing_before, live_at, row_at, last_below}
use Rattle.heap_log.proofs.Adds.{KeepsBefore}
use Rattle.heap_log.proofs.Last.{IsLast, last_below_some, last_below_is, last_below_agree}
use Rattle.heap_log.proofs.Numbers.{write_at, newest_standing-of}
use Rattle.slotted_page.specs.Slot.{Slot, row as row_slot, reserve_of, settled}
use Rattle.heap_table.specs.HeapState.{HeapState, is_open}
use Rattle.heap_table.specs.Holders.{writes, wrote, holder, row_size, room_held_by, room_needed}
use Rattle.heap_table.specs.PageLists.{settled_if, changed}
use Rattle.heap_table.specs.Pages.{slot_with, slot_under, slot_of}
use Rattle.heap_table.specs.Sound.{IsSound, UndoFits}
use Rattle.heap_log.proofs.Growing.{Grows}
use Rattle.keybytes.proofs.SameRids.{same_rid-true}
use Rattle.heap_log.proofs.Records.{rid_of-write}
use Rattle.heap_table.proofs.LogRows.{newest_there, length_grown}
use Rattle.heap_table.proofs.Holding.{holder_is, holder_open, holder_wrote, no_holder, same_holder}
use Rattle.heap_table.proofs.Slots.{at_its_rid, reserve_slot, room_kept, under_kept, Wrote, write_holder, write_other_holder, write_live, write_other_live}
use Rattle.heap_table.proofs.Slots.{write_room, write_other_slot}
use Rattle.heap_table.proofs.Sounds.{wrote_still}
use Rattle.heap_table.proofs.Writers.{wrote_from}
use Rattle.heap_table.proofs.Small.{rid_cases, some_or_none}

-- a row before a write, once a record that leaves it is added
row_before_kept :
    (log new : List LogRec) (rec : LogRec) (n : ℕ) → Grows log rec new → n ≤ length log → KeepsBefore log n rec
    → row_at new (standing_before new n) ≡ row_at log (standing_before log n)
row_before_kept log new rec n added within keeps =
    ap (row_at new) (added.before.before n within keeps) ∙ by (standing_before log n) refl where
      by : (o : Option ℕ) → standing_before log n ≡ o → row_at new o ≡ row_at log o
      by None e = refl
      by (Some k) e =
          let last : IsLast (stands_at log (rid_of (record_at log n))) n k = last_below_some (stands_at log (rid_of (record_at log n))) n k e in
          ap row_of (added.numbers.earlier k (omega (arith, last.below, within)))

-- what stands of a transaction among the records that were there
stood : (log new : List LogRec) (rec : LogRec) (txn n : ℕ) → Grows log rec new → n ≤ length log → is_undo_of n rec ≡ false → stands_of new txn n ≡ true
    → stands_of log txn n ≡ true
stood log new rec txn n added within none e =
    let parts = and_parts (is_write_of txn (record_at new n)) (not (undone new n)) e in
    let same : undone new n ≡ undone log n = added.numbers.undoes n ∙ rw none (or-false (undone log n)) in
    and_from (is_write_of txn (record_at log n)) (not (undone log n)) (ap (is_write_of txn) (sym (added.numbers.earlier n within)) ∙ parts.0)
    (ap not (sym same) ∙ parts.1)

-- who holds a RID held it before a record that is no write
holder_was :
    (s t : HeapState) → IsSound s → IsSound t → (rid : Rid) → ((txn : ℕ) → wrote t.log txn rid ≡ wrote s.log txn rid)
    → ((txn : ℕ) → is_open t.active txn ≡ true → is_open s.active txn ≡ true) → (txn : ℕ) → holder t.log rid ≡ Some txn → holder s.log rid ≡ Some txn
holder_was s t h k rid written fewer txn e =
    let by = holder_wrote t.log rid txn e in
    holder_is s h rid txn (fewer txn (holder_open t k rid txn e)) (sym (written txn) ∙ by.1)

-- the slot of a RID once a transaction has ended
pub ended_slot :
    (s t : HeapState) (txn : ℕ) → IsSound s → IsSound t → is_open s.active txn ≡ true → is_open t.active txn ≡ false
    → ((other : ℕ) → other ≢ txn → is_open t.active other ≡ is_open s.active other) → (rid : Rid)
    → ((other : ℕ) → wrote t.log other rid ≡ wrote s.log other rid)
    → slot_of t.log rid ≡ settled_if (wrote t.log txn rid) (slot_under (holder s.log rid) t.log rid)
ended_slot s t txn h k opened closed others rid written = elim (cases_Bool (wrote t.log txn rid)) [
  | inl has ↦
      let was : holder s.log rid ≡ Some txn = holder_is s h rid txn opened (sym (written txn) ∙ has) in
      let none : holder t.log rid ≡ None = no_holder t k rid (λ u is by. elim (cases_eq u txn) [
        | inl same ↦ false≢true (sym (ap (is_open t.active) same ∙ closed) ∙ is)
        | inr differs ↦
            differs (same_Some u txn (sym (holder_is s h rid u (sym (others u differs) ∙ is) (sym (written u) ∙ by)) ∙ was))
      ]) in
      ap (λ (o : Option ℕ). slot_under o t.log rid) none
      ∙ (freed (live_at t.log rid) (room_held_by (Some txn) t.log rid)
      ∙ (ap (λ (o : Option ℕ). settled (slot_under o t.log rid)) (sym was)
      ∙ ap (λ (b : Bool). settled_if b (slot_under (holder s.log rid) t.log rid)) (sym has)))
  | inr never ↦
      let same : holder t.log rid ≡ holder s.log rid = elim (some_or_none (holder s.log rid)) [
        | inl none ↦ no_holder t k rid (λ u is by. elim (cases_eq u txn) [
          | inl same ↦ false≢true (sym (ap (is_open t.active) same ∙ closed) ∙ is)
          | inr differs ↦ none-some u (sym none ∙ holder_is s h rid u (sym (others u differs) ∙ is) (sym (written u) ∙ by))
        ]) ∙ sym none
        | inr some ↦
            let by = holder_wrote s.log rid some.0 some.1 in
            let new : wrote t.log some.0 rid ≡ true = written some.0 ∙ by.1 in
            let differs : some.0 ≢ txn = λ e. false≢true (sym never ∙ (ap (λ (u : ℕ). wrote t.log u rid) (sym e) ∙ new)) in
            holder_is t k rid some.0 (others some.0 differs ∙ holder_open s h rid some.0 some.1) new ∙ sym some.1
      ] in
      ap (λ (o : Option ℕ). slot_under o t.log rid) same ∙ ap (λ (b : Bool). settled_if b (slot_under (holder s.log rid) t.log rid)) (sym never)
] where
  freed : (cells : Option (List Cell)) (reserve : ℕ) → slot_with cells None (row_size cells) ≡ settled (slot_with cells (Some txn) reserve)
  freed None reserve = refl
  freed (Some cells) reserve = refl

-- the slot of a RID where every transaction stays open
pub going_slot :
    (s t : HeapState) → IsSound s → IsSound t → ((txn : ℕ) → is_open t.active txn ≡ is_open s.active txn) → (rid : Rid)
    → ((txn : ℕ) → wrote t.log txn rid ≡ wrote s.log txn rid) → slot_of t.log rid ≡ slot_under (holder s.log rid) t.log rid
going_slot s t h k same rid written =
    ap (λ (o : Option ℕ). slot_under o t.log rid) (same_holder s t h k rid written
    (λ u has. k.busy u rid (written u ∙ has) ∙ (same u ∙ sym (h.busy u rid has))))

-- the fits that a record that is no write leaves
fits_after :
    (s t : HeapState) (rec : LogRec) → IsSound s → IsSound t → t.log ≡ s.log ++ rec ∷ [] → ((txn : ℕ) (rid : Rid) → writes txn rid rec ≡ false)
    → ((txn : ℕ) → is_open t.active txn ≡ true → is_open s.active txn ≡ true)
    → ((rid : Rid) → row_size (live_at t.log rid) ≤ room_needed s.log rid)
    → ((txn n : ℕ) (rid : Rid) → holder s.log rid ≡ Some txn → stands_of t.log txn n ≡ true → is_write_at rid (record_at t.log n) ≡ true
    → row_size (row_at t.log (standing_before t.log n)) ≤ room_needed s.log rid)
    → UndoFits t.log
fits_after s t rec h k is none fewer live before = record {
  live = λ rid. elim (some_or_none (holder t.log rid)) [
    | inl free ↦ rw free (omega arith)
    | inr some ↦ let room = kept some.0 rid some.1 in let fits = live rid in omega (arith, room, fits)
  ];
  before = λ u m rid e stands there. let room = kept u rid e in let fits = before u m rid (was u rid e) stands there in omega (arith, room, fits);
} where
  was : (u : ℕ) (rid : Rid) → holder t.log rid ≡ Some u → holder s.log rid ≡ Some u
  was u rid e = holder_was s t h k rid (λ v. wrote_still s.log t.log rec v rid is (none v rid)) fewer u e

  kept : (u : ℕ) (rid : Rid) → holder t.log rid ≡ Some u → room_needed t.log rid ≡ room_needed s.log rid
  kept u rid e =
      ap (λ (o : Option ℕ). room_held_by o t.log rid) e
      ∙ (room_kept s.log t.log rec rid u is (holder_wrote s.log rid u (was u rid e)).1 (none u rid)
      ∙ sym (ap (λ (o : Option ℕ). room_held_by o s.log rid) (was u rid e)))

-- a write is not the last record, where that is none
old_number :
    (s t : HeapState) (rec : LogRec) (n : ℕ) (rid : Rid) → Grows s.log rec t.log → ((rid : Rid) → is_write_at rid (Some rec) ≡ false)
    → is_write_at rid (record_at t.log n) ≡ true → n ≤ length s.log
old_number s t rec n rid added nowhere there =
    let count : length t.log ≡ length s.log + 1 = length_grown s.log t.log rec added in
    let high = (write_at t.log rid n there).high in
    elim (cases_eq n (length s.log + 1)) [
      | inl last ↦ absurd (false≢true (sym (ap (is_write_at rid) (ap (record_at t.log) last ∙ added.numbers.here) ∙ nowhere rid) ∙ there))
      | inr other ↦ omega (arith, count, high, other)
    ]

-- a record that leaves the rows and is no write
pub fits_quiet :
    (s t : HeapState) (rec : LogRec) → IsSound s → IsSound t → Grows s.log rec t.log → ((txn : ℕ) (rid : Rid) → writes txn rid rec ≡ false)
    → ((rid : Rid) → is_write_at rid (Some rec) ≡ false) → ((n : ℕ) → is_undo_of n rec ≡ false) → ((n : ℕ) → KeepsBefore s.log n rec)
    → ((txn : ℕ) → is_open t.active txn ≡ true → is_open s.active txn ≡ true) → ((rid : Rid) → live_at t.log rid ≡ live_at s.log rid) → UndoFits s.log
    → UndoFits t.log
fits_quiet s t rec h k added none nowhere undoes keeps fewer live fits =
    fits_after s t rec h k added.is none fewer (λ rid. rw (live rid) (fits.live rid))
    (λ u m rid e stands there.
    let within : m ≤ length s.log = old_number s t rec m rid added nowhere there in
    rw (row_before_kept s.log t.log rec m added within (keeps m))
    (fits.before u m rid e (stood s.log t.log rec u m added within (undoes m) stands)
    (ap (is_write_at rid) (sym (added.numbers.earlier m within)) ∙ there)))

-- the fits after a write
pub fits_write :
    (s t : HeapState) (txn : ℕ) (rid : Rid) (row : Option (List Cell)) → Wrote s t txn rid row → UndoFits s.log → UndoFits t.log
fits_write s t txn rid row w fits = record {
  live = λ other. elim (rid_cases rid other) [
    | inl same ↦ rw same (let room = write_room s t txn rid row w in let live = ap row_size (write_live s t txn rid row w) in omega (arith, room, live))
    | inr differs ↦ let room = other_room other differs in let live = ap row_size (write_other_live s t txn rid row w other differs) in
        let old = fits.live other in omega (arith, room, live, old)
  ];
  before = λ u m other e stands there. elim (cases_lt (length s.log) m) [
    | inl last ↦
        let count : length t.log ≡ length s.log + 1 = length_grown s.log t.log rec w.added in
        let high = (write_at t.log other m there).high in
        let m_is : m ≡ length s.log + 1 = omega (arith, high, count, last) in
        let here : record_at t.log m ≡ Some rec = ap (record_at t.log) m_is ∙ w.added.numbers.here in
        let same : rid ≡ other = same_rid-true rid other (ap (is_write_at other) (sym here) ∙ there) in
        let row_is : row_at t.log (standing_before t.log m) ≡ live_at s.log rid =
        ap (λ (k : ℕ). row_at t.log (standing_before t.log k)) m_is ∙ newest_row in
        let room = write_room s t txn rid row w in
        let old = fits.live rid in
        let size = ap row_size row_is in
        subst (λ (r : Rid). row_size (row_at t.log (standing_before t.log m)) ≤ room_needed t.log r) same (omega (arith, room, old, size))
    | inr old ↦
        let within : m ≤ length s.log = omega (arith, old) in
        let stands_s = stood s.log t.log rec u m w.added within refl stands in
        let there_s : is_write_at other (record_at s.log m) ≡ true = ap (is_write_at other) (sym (w.added.numbers.earlier m within)) ∙ there in
        let size = ap row_size (row_before_kept s.log t.log rec m w.added within tt) in
        elim (rid_cases rid other) [
          | inl same ↦
              let is_txn : txn ≡ u = same_Some txn u (sym (write_holder s t txn rid row w) ∙ (ap (holder t.log) (sym same) ∙ e)) in
              let by : is_write_of u (record_at s.log m) ≡ true = (and_parts (is_write_of u (record_at s.log m)) (not (undone s.log m)) stands_s).0 in
              let held_by : holder s.log other ≡ Some u =
              holder_is s w.was other u (ap (is_open s.active) (sym is_txn) ∙ w.opened) (wrote_from s.log u other m by there_s) in
              let fit = fits.before u m other held_by stands_s there_s in
              let room : room_needed t.log other ≡ max (room_needed s.log other) (row_size row) = rw same (write_room s t txn rid row w) in
              omega (arith, fit, room, size)
          | inr differs ↦
              let held_by : holder s.log other ≡ Some u = sym (write_other_holder s t txn rid row w other differs) ∙ e in
              let fit = fits.before u m other held_by stands_s there_s in
              let room = other_room other differs in
              omega (arith, fit, room, size)
        ]
  ];
} where
  rec : LogRec
  rec = Write txn rid row

  other_room : (other : Rid) → other ≢ rid → room_needed t.log other ≡ room_needed s.log other
  other_room other differs =
      sym (reserve_slot t.log other) ∙ (ap reserve_of (write_other_slot s t txn rid row w other differs) ∙ reserve_slot s.log other)

  same_stand : (k : ℕ) → k ≤ length s.log → stands_at t.log rid k ≡ stands_at s.log rid k
  same_stand k within =
      ap (λ (r : Option LogRec). is_write_at rid r && not (undone t.log k)) (w.added.numbers.earlier k within)
      ∙ ap (λ (b : Bool). is_write_at rid (record_at s.log k) && not b) (w.added.numbers.undoes k ∙ or-false (undone s.log k))

  by : (o : Option ℕ) → newest_at s.log rid ≡ o → row_at t.log o ≡ row_at s.log o
  by None e = refl
  by (Some k) e =
      let last : IsLast (stands_at s.log rid) (length s.log + 1) k = last_below_some (stands_at s.log rid) (length s.log + 1) k e in
      ap row_of (w.added.numbers.earlier k (omega (arith, last.below)))

  newest_row : row_at t.log (standing_before t.log (length s.log + 1)) ≡ live_at s.log rid
  newest_row =
      let at : rid_of (record_at t.log (length s.log + 1)) ≡ rid = ap rid_of w.added.numbers.here in
      let place : standing_before t.log (length s.log + 1) ≡ newest_at s.log rid =
      ap (λ (r : Rid). last_below (stands_at t.log r) (length s.log + 1)) at
      ∙ last_below_agree (stands_at t.log rid) (stands_at s.log rid) (length s.log + 1) (λ k l. same_stand k (omega (arith, l))) in
      ap (row_at t.log) place ∙ by (newest_at s.log rid) refl

-- a transaction's newest standing write is undone
pub record Undid (s t : HeapState) (txn n : ℕ) (rid : Rid) : Type 0 where
  pub was : IsSound s
  pub sound : IsSound t
  pub fits : UndoFits s.log
  pub added : Grows s.log (Undo txn n) t.log
  pub fewer : (other : ℕ) → is_open t.active other ≡ true → is_open s.active other ≡ true
  pub newest : newest_standing s.log txn ≡ Some n
  pub opened : is_open s.active txn ≡ true
  pub place : rid ≡ rid_of (record_at s.log n)

pub undo_there : (s t : HeapState) (txn n : ℕ) (rid : Rid) → Undid s t txn n rid → is_write_at rid (record_at s.log n) ≡ true
undo_there s t txn n rid u = rw u.place (at_its_rid txn (record_at s.log n) (newest_standing-of s.log txn n u.newest))

undo_holder : (s t : HeapState) (txn n : ℕ) (rid : Rid) → Undid s t txn n rid → holder s.log rid ≡ Some txn
undo_holder s t txn n rid u =
    holder_is s u.was rid txn u.opened (wrote_from s.log txn rid n (newest_standing-of s.log txn n u.newest) (undo_there s t txn n rid u))

undo_last : (s t : HeapState) (txn n : ℕ) (rid : Rid) → Undid s t txn n rid → IsLast (stands_of s.log txn) (length s.log + 1) n
undo_last s t txn n rid u = last_below_some (stands_of s.log txn) (length s.log + 1) n u.newest

-- it is the newest standing write at its RID
undo_newest : (s t : HeapState) (txn n : ℕ) (rid : Rid) → Undid s t txn n rid → newest_at s.log rid ≡ Some n
undo_newest s t txn n rid u =
    let last = undo_last s t txn n rid u in
    let parts = and_parts (is_write_of txn (record_at s.log n)) (not (undone s.log n)) last.passes in
    let there = undo_there s t txn n rid u in
    last_below_is (stands_at s.log rid) (length s.log + 1) n (record {
      below = last.below;
      passes = and_from (is_write_at rid (record_at s.log n)) (not (undone s.log n)) there parts.1;
      after = λ k after below. elim (cases_Bool (stands_at s.log rid k)) [
        | inl stands ↦
            let both = and_parts (is_write_at rid (record_at s.log k)) (not (undone s.log k)) stands in
            let own = u.was.held txn n k rid u.opened after parts.0 there both.0 in
            absurd (false≢true (sym (last.after k after below) ∙ and_from (is_write_of txn (record_at s.log k)) (not (undone s.log k)) own both.1))
        | inr none ↦ none
      ];
    })

-- the row before it comes back
pub undo_live : (s t : HeapState) (txn n : ℕ) (rid : Rid) → Undid s t txn n rid → live_at t.log rid ≡ row_at s.log (standing_before s.log n)
undo_live s t txn n rid u =
    let number : is_number n (newest_at s.log rid) ≡ true = ap (is_number n) (undo_newest s t txn n rid u) ∙ eq-eqb n n refl in
    u.added.live.live rid ∙ rw number refl

pub undo_other_live : (s t : HeapState) (txn n : ℕ) (rid : Rid) → Undid s t txn n rid → (other : Rid) → other ≢ rid → live_at t.log other ≡ live_at s.log other
undo_other_live s t txn n rid u other differs = u.added.live.live other ∙ (elim (cases_Bool (is_number n (newest_at s.log other))) [
  | inl same ↦ absurd (elsewhere (newest_at s.log other) refl same)
  | inr none ↦ rw none refl
]) where
  elsewhere : (o : Option ℕ) → newest_at s.log other ≡ o → is_number n o ≡ true → ⊥
  elsewhere None e same = false≢true same
  elsewhere (Some k) e same =
      let at : is_write_at other (record_at s.log n) ≡ true =
      ap (λ (m : ℕ). is_write_at other (record_at s.log m)) (sym (eqb-true k n same)) ∙ newest_there s.log other k e in
      differs (sym (rid_of-write other (record_at s.log n) at) ∙ sym u.place)

-- the row that comes back fits
undo_size : (s t : HeapState) (txn n : ℕ) (rid : Rid) → Undid s t txn n rid → row_size (row_at s.log (standing_before s.log n)) ≤ room_needed s.log rid
undo_size s t txn n rid u = u.fits.before txn n rid (undo_holder s t txn n rid u) (undo_last s t txn n rid u).passes (undo_there s t txn n rid u)

-- the slot that it comes back to, under the holder that it had
pub undo_slot :
    (s t : HeapState) (txn n : ℕ) (rid : Rid) → Undid s t txn n rid
    → slot_under (holder s.log rid) t.log rid ≡ changed (slot_of s.log rid) (option_map row_bytes (row_at s.log (standing_before s.log n)))
undo_slot s t txn n rid u =
    let held_by = undo_holder s t txn n rid u in
    let room : room_held_by (Some txn) t.log rid ≡ reserve_of (slot_of s.log rid) =
    room_kept s.log t.log (Undo txn n) rid txn u.added.is (holder_wrote s.log rid txn held_by).1 refl
    ∙ (sym (ap (λ (o : Option ℕ). room_held_by o s.log rid) held_by) ∙ sym (reserve_slot s.log rid)) in
    ap (λ (o : Option ℕ). slot_under o t.log rid) held_by
    ∙ (ap (λ (cells : Option (List Cell)). slot_with cells (Some txn) (room_held_by (Some txn) t.log rid)) (undo_live s t txn n rid u)
    ∙ (ap (slot_with (row_at s.log (standing_before s.log n)) (Some txn)) room
    ∙ by (row_at s.log (standing_before s.log n)) (slot_of s.log rid)
    (let size = undo_size s t txn n rid u in let reserve = reserve_slot s.log rid in omega (arith, size, reserve)))) where
      by : (cells : Option (List Cell)) (slot : Slot) → row_size cells ≤ reserve_of slot
          → slot_with cells (Some txn) (reserve_of slot) ≡ changed slot (option_map row_bytes cells)
      by None slot fits = refl
      by (Some cells) slot fits =
          let most : reserve_of slot ≡ max (reserve_of slot) (length (row_bytes cells)) = omega (arith, fits) in ap (row_slot (row_bytes cells)) most

-- the slots of the others stay under the holders that they had
pub undo_other_slot :
    (s t : HeapState) (txn n : ℕ) (rid : Rid) → Undid s t txn n rid → (other : Rid) → other ≢ rid
    → slot_under (holder s.log other) t.log other ≡ slot_of s.log other
undo_other_slot s t txn n rid u other differs =
    under_kept s.log t.log (Undo txn n) other (holder s.log other) u.added.is (λ v e. (holder_wrote s.log other v e).1) (λ v. refl)
    (undo_other_live s t txn n rid u other differs)

-- the fits after an undo
pub fits_undo :
    (s t : HeapState) (txn n : ℕ) (rid : Rid) → Undid s t txn n rid → UndoFits t.log
fits_undo s t txn n rid u =
    fits_after s t (Undo txn n) u.was u.sound u.added.is (λ v r. refl) u.fewer
    (λ other. elim (rid_cases rid other) [
      | inl same ↦ rw same (let live = ap row_size (undo_live s t txn n rid u) in let size = undo_size s t txn n rid u in omega (arith, live, size))
      | inr differs ↦ let live = ap row_size (undo_other_live s t txn n rid u other differs) in let old = u.fits.live other in omega (arith, live, old)
    ])
    (λ v m other e stands there.
    let within : m ≤ length s.log = old_number s t (Undo txn n) m other u.added (λ r. refl) there in
    let parts = and_parts (is_write_of v (record_at t.log m)) (not (undone t.log m)) stands in
    let fresh : (undone s.log m || (n == m)) ≡ false = sym (u.added.numbers.undoes m) ∙ not-true (undone t.log m) parts.1 in
    let stands_s : stands_of s.log v m ≡ true =
    and_from (is_write_of v (record_at s.log m)) (not (undone s.log m)) (ap (is_write_of v) (sym (u.added.numbers.earlier m within)) ∙ parts.0)
    (ap not (or_parts (undone s.log m) (n == m) fresh).0) in
    let there_s : is_write_at other (record_at s.log m) ≡ true = ap (is_write_at other) (sym (u.added.numbers.earlier m within)) ∙ there in
    let keeps : KeepsBefore s.log m (Undo txn n) = elim (rid_cases rid other) [
      | inl same ↦
          let is_txn : v ≡ txn = same_Some v txn (sym e ∙ (ap (holder s.log) same ∙ undo_holder s t txn n rid u)) in
          let last = undo_last s t txn n rid u in
          inl (elim (cases_lt n m) [
            | inl after ↦ absurd (false≢true (sym (last.after m after (omega (arith, within))) ∙ (ap (λ (w : ℕ). stands_of s.log w m) (sym is_txn) ∙ stands_s)))
            | inr below ↦ below
          ])
      | inr differs ↦
          inr (elim (cases_Bool (is_write_at (rid_of (record_at s.log m)) (record_at s.log n))) [
            | inl also ↦
                let at : is_write_at other (record_at s.log n) ≡ true =
                ap (λ (r : Rid). is_write_at r (record_at s.log n)) (sym (rid_of-write other (record_at s.log m) there_s)) ∙ also in
                absurd (differs (sym (rid_of-write other (record_at s.log n) at) ∙ sym u.place))
            | inr none ↦ none
          ])
    ] in
    let size = ap row_size (row_before_kept s.log t.log (Undo txn n) m u.added within keeps) in
    let fit = u.fits.before v m other e stands_s there_s in
    omega (arith, size, fit))
