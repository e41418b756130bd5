-- Who holds a RID.
use Rattle.std.proofs.Common.{◌≡◌, inl, inr, ℕ, zero, suc, ◌+◌, ◌<◌, Bool, true, false, List, [], ◌∷◌, length, Option, Some, None, refl, sym, ap, ◌∙◌, arith}
use Rattle.std.proofs.Math.Bool.{and-false, and-true}
use Rattle.std.specs.Prelude.{◌||◌, ◌==◌, if◌then◌else◌, ◌&&◌, not, nat_lt}
use Rattle.std.specs.Bool.{then_some}
use Rattle.std.specs.List.{filter_map, find, cons_option}
use Rattle.std.proofs.lemmas.Bool.{cases_Bool, cases_order, false≢true, eqb-true, eq-eqb, or_cases, or_left, or_right, and_left, and_right}
use Rattle.std.proofs.lemmas.Option.{same_Some, none-some}
use Rattle.keybytes.specs.declared.rid.Rid.{Rid}
use Rattle.heap_log.specs.declared.record.LogRec.{LogRec}
use Rattle.heap_log.specs.declared.record.LogRec.TheVariants.{Write, Undo, Commit, Switch}
use Rattle.keybytes.specs.Rids.{same_rid}
use Rattle.heap_log.specs.Standing.{count_below, record_at, is_write_of, is_write_at, is_number, last_at, newest_standing, standing_count, stands_of, rid_of}
use Rattle.heap_log.proofs.Last.{IsLast, last_below_some, last_below_none}
use Rattle.heap_log.proofs.Numbers.{write_at, newest_standing-of, newest_standing-write}
use Rattle.heap_table.specs.HeapState.{HeapState, is_open}
use Rattle.heap_table.specs.Holders.{writes, wrote, is_busy, writer_at, holder, committed}
use Rattle.heap_table.specs.Sound.{IsSound, HoldsFollowLog}
use Rattle.heap_table.proofs.Writers.{HasWrite, wrote_some, wrote_from}
use Rattle.heap_log.proofs.Records.{writes_there, one_writer}
use Rattle.heap_table.proofs.Small.{some_or_none}

-- a record is a write of its writer
writes_by : (txn : ℕ) (rid : Rid) (rec : LogRec) → writes txn rid rec ≡ is_number txn (writer_at rid rec)
writes_by txn rid (Write w r row) = elim (cases_Bool (same_rid r rid)) [
  | inl is ↦ rw is (and-true (w == txn))
  | inr is ↦ rw is (and-false (w == txn))
]
writes_by txn rid (Undo t n) = refl
writes_by txn rid (Commit t) = refl
writes_by txn rid (Switch o) = refl

-- the first writer that passes did write
finds_wrote : (p : ℕ → Bool) (log : List LogRec) (rid : Rid) (t : ℕ) → find p (filter_map (writer_at rid) log) ≡ Some t
    → (p t ≡ true) × (wrote log t rid ≡ true)
finds_wrote p [] rid t e = absurd (cc)
finds_wrote p (rec ∷ log) rid t e = elim (some_or_none (writer_at rid rec)) [
  | inl none ↦
      let rest = finds_wrote p log rid t (sym (ap (λ (o : Option ℕ). find p (cons_option o (filter_map (writer_at rid) log))) none) ∙ e) in
      (rest.0, or_right (writes t rid rec) (wrote log t rid) rest.1)
  | inr some ↦
      let w = some.0 in
      let at : find p (w ∷ filter_map (writer_at rid) log) ≡ Some t =
      sym (ap (λ (o : Option ℕ). find p (cons_option o (filter_map (writer_at rid) log))) some.1) ∙ e in
      elim (cases_Bool (p w)) [
        | inl hit ↦
            let same : w ≡ t = same_Some w t (sym (ap (λ (b : Bool). if b then Some w else find p (filter_map (writer_at rid) log)) hit) ∙ at) in
            (ap p (sym same) ∙ hit, or_left (writes t rid rec) (wrote log t rid) (writes_by t rid rec ∙ (ap (is_number t) some.1 ∙ eq-eqb w t same)))
        | inr miss ↦
            let rest = finds_wrote p log rid t (sym (ap (λ (b : Bool). if b then Some w else find p (filter_map (writer_at rid) log)) miss) ∙ at) in
            (rest.0, or_right (writes t rid rec) (wrote log t rid) rest.1)
      ]
]

-- where no writer passes, none that wrote does
finds_none : (p : ℕ → Bool) (log : List LogRec) (rid : Rid) (t : ℕ) → find p (filter_map (writer_at rid) log) ≡ None → wrote log t rid ≡ true → p t ≡ false
finds_none p [] rid t e has = absurd (false≢true has)
finds_none p (rec ∷ log) rid t e has = elim (some_or_none (writer_at rid rec)) [
  | inl none ↦
      let other : writes t rid rec ≡ false = writes_by t rid rec ∙ ap (is_number t) none in
      finds_none p log rid t (sym (ap (λ (o : Option ℕ). find p (cons_option o (filter_map (writer_at rid) log))) none) ∙ e)
      (sym (ap (λ (b : Bool). b || wrote log t rid) other) ∙ has)
  | inr some ↦
      let w = some.0 in
      let at : find p (w ∷ filter_map (writer_at rid) log) ≡ None =
      sym (ap (λ (o : Option ℕ). find p (cons_option o (filter_map (writer_at rid) log))) some.1) ∙ e in
      elim (cases_Bool (p w)) [
        | inl hit ↦ absurd (none-some w (sym at ∙ ap (λ (b : Bool). if b then Some w else find p (filter_map (writer_at rid) log)) hit))
        | inr miss ↦ elim (or_cases (writes t rid rec) (wrote log t rid) has) [
          | inl here ↦
              let same : w ≡ t = eqb-true w t (sym (writes_by t rid rec ∙ ap (is_number t) some.1) ∙ here) in
              ap p (sym same) ∙ miss
          | inr rest ↦
              finds_none p log rid t (sym (ap (λ (b : Bool). if b then Some w else find p (filter_map (writer_at rid) log)) miss) ∙ at) rest
        ]
      ]
]

pub holder_wrote : (log : List LogRec) (rid : Rid) (txn : ℕ) → holder log rid ≡ Some txn → (is_busy log txn ≡ true) × (wrote log txn rid ≡ true)
holder_wrote log rid txn e = finds_wrote (is_busy log) log rid txn e

holder_none : (log : List LogRec) (rid : Rid) (txn : ℕ) → holder log rid ≡ None → wrote log txn rid ≡ true → is_busy log txn ≡ false
holder_none log rid txn e has = finds_none (is_busy log) log rid txn e has

-- at most one open transaction has a write at a RID
one_holder : (s : HeapState) → IsSound s → (u v : ℕ) (rid : Rid) → is_open s.active u ≡ true → is_open s.active v ≡ true → HasWrite s.log u rid
    → HasWrite s.log v rid → u ≡ v
one_holder s h u v rid open_u open_v a b =
    elim (cases_order a.number b.number) [
      | inl e ↦ one_writer u v (record_at s.log a.number) a.by (ap (λ n. is_write_of v (record_at s.log n)) e ∙ b.by)
      | inr other ↦ elim other [
        | inl l ↦ one_writer u v (record_at s.log b.number) (h.held u a.number b.number rid open_u l a.by a.there b.there) b.by
        | inr l ↦ sym (one_writer v u (record_at s.log a.number) (h.held v b.number a.number rid open_v l b.by b.there a.there) a.by)
      ]
    ]

-- the holder of a RID is open
pub holder_open : (s : HeapState) → IsSound s → (rid : Rid) (txn : ℕ) → holder s.log rid ≡ Some txn → is_open s.active txn ≡ true
holder_open s h rid txn e = let has = holder_wrote s.log rid txn e in sym (h.busy txn rid has.1) ∙ has.0

-- an open transaction with a write at a RID is its holder
pub holder_is : (s : HeapState) → IsSound s → (rid : Rid) (txn : ℕ) → is_open s.active txn ≡ true → wrote s.log txn rid ≡ true → holder s.log rid ≡ Some txn
holder_is s h rid txn is has = elim (some_or_none (holder s.log rid)) [
  | inl none ↦ absurd (false≢true (sym (holder_none s.log rid txn none has) ∙ (h.busy txn rid has ∙ is)))
  | inr some ↦
      let by = holder_wrote s.log rid some.0 some.1 in
      some.1 ∙ ap Some (one_holder s h some.0 txn rid (holder_open s h rid some.0 some.1) is
      (wrote_some s.log some.0 rid by.1) (wrote_some s.log txn rid has))
]

-- a RID that no open transaction wrote has no holder
pub no_holder : (s : HeapState) → IsSound s → (rid : Rid) → ((txn : ℕ) → is_open s.active txn ≡ true → wrote s.log txn rid ≡ true → ⊥) → holder s.log rid ≡ None
no_holder s h rid never = elim (some_or_none (holder s.log rid)) [
  | inl none ↦ none
  | inr some ↦ absurd (never some.0 (holder_open s h rid some.0 some.1) (holder_wrote s.log rid some.0 some.1).1)
]

-- the holder, from the last write at the RID
pub holder_unwritten : (s : HeapState) → IsSound s → (rid : Rid) → last_at s.log rid (length s.log + 1) ≡ None → holder s.log rid ≡ None
holder_unwritten s h rid none = no_holder s h rid (λ txn is has.
    let a = wrote_some s.log txn rid has in
    let w = write_at s.log rid a.number a.there in
    false≢true (sym (last_below_none (λ k. is_write_at rid (record_at s.log k)) (length s.log + 1) none a.number (omega (arith, w.high))) ∙ a.there))

pub holder_last : (s : HeapState) → IsSound s → (rid : Rid) (n txn : ℕ) → last_at s.log rid (length s.log + 1) ≡ Some n
    → is_write_of txn (record_at s.log n) ≡ true → holder s.log rid ≡ (if is_open s.active txn then Some txn else None)
holder_last s h rid n txn e by =
    let last : IsLast (λ k. is_write_at rid (record_at s.log k)) (length s.log + 1) n =
    last_below_some (λ k. is_write_at rid (record_at s.log k)) (length s.log + 1) n e in
    elim (cases_Bool (is_open s.active txn)) [
      | inl is ↦ rw is (holder_is s h rid txn is (wrote_from s.log txn rid n by last.passes))
      | inr closed ↦ rw closed (no_holder s h rid (λ u is has.
          let a = wrote_some s.log u rid has in
          let w = write_at s.log rid a.number a.there in
          let same : u ≡ txn = elim (cases_order a.number n) [
            | inl same ↦ one_writer u txn (record_at s.log n) (ap (λ k. is_write_of u (record_at s.log k)) (sym same) ∙ a.by) by
            | inr other ↦ elim other [
              | inl below ↦ one_writer u txn (record_at s.log n) (h.held u a.number n rid is below a.by a.there last.passes) by
              | inr above ↦ absurd (false≢true (sym (last.after a.number above (omega (arith, w.high))) ∙ a.there))
            ]
          ] in
          false≢true (sym closed ∙ (ap (is_open s.active) (sym same) ∙ is))))
    ]

-- a transaction without a newest standing write has none
count_none : (p : ℕ → Bool) (n : ℕ) → ((k : ℕ) → k < n → p k ≡ false) → count_below p n ≡ 0
count_none p zero none = refl
count_none p (suc n) none = rw (none n (omega arith)) (count_none p n (λ k l. none k (omega arith)))

pub none_standing : (log : List LogRec) (txn : ℕ) → newest_standing log txn ≡ None → standing_count log txn ≡ 0
none_standing log txn e = count_none (stands_of log txn) (length log + 1) (last_below_none (stands_of log txn) (length log + 1) e)

-- a busy transaction is an open one with a standing write
busy_opens : (s : HeapState) → IsSound s → (txn : ℕ) → is_busy s.log txn ≡ (is_open s.active txn && nat_lt 0 (standing_count s.log txn))
busy_opens s h txn =
    let opened : Bool = is_open s.active txn in
    elim (cases_Bool (nat_lt 0 (standing_count s.log txn))) [
      | inl some ↦ elim (some_or_none (newest_standing s.log txn)) [
        | inl none ↦ absurd (false≢true (sym (ap (nat_lt 0) (none_standing s.log txn none)) ∙ some))
        | inr newest ↦
            let rid : Rid = rid_of (record_at s.log newest.0) in
            let there = writes_there (record_at s.log newest.0) (newest_standing-write s.log txn newest.0 newest.1).write in
            h.busy txn rid (wrote_from s.log txn rid newest.0 (newest_standing-of s.log txn newest.0 newest.1) there)
            ∙ sym (ap (λ b. opened && b) some ∙ and-true opened)
      ]
      | inr none ↦
          and_left (nat_lt 0 (standing_count s.log txn)) (not (committed s.log txn)) none
          ∙ sym (and_right opened (nat_lt 0 (standing_count s.log txn)) none)
    ]

-- what a sound table tells of its holds
pub holds_follow : (s : HeapState) → IsSound s → HoldsFollowLog s
holds_follow s h = record {
  busy = busy_opens s h;
  uncommitted = h.uncommitted;
  alone = λ txn rid busy has. holder_is s h rid txn (sym (h.busy txn rid has) ∙ busy) has;
  is_open = λ txn rid e. holder_open s h rid txn e;
  held = λ txn n m rid e l by there at. h.held txn n m rid (holder_open s h rid txn e) l by there at;
  begun = h.writers;
}

-- the holders stay where the same transactions wrote and the same are busy
pub same_holder :
    (s t : HeapState) → IsSound s → IsSound t → (rid : Rid) → ((txn : ℕ) → wrote t.log txn rid ≡ wrote s.log txn rid)
    → ((txn : ℕ) → wrote s.log txn rid ≡ true → is_busy t.log txn ≡ is_busy s.log txn) → holder t.log rid ≡ holder s.log rid
same_holder s t h k rid written busy = elim (some_or_none (holder s.log rid)) [
  | inl none ↦
      no_holder t k rid (λ txn is has.
      let old : wrote s.log txn rid ≡ true = sym (written txn) ∙ has in
      false≢true (sym (holder_none s.log rid txn none old) ∙ (sym (busy txn old) ∙ (k.busy txn rid has ∙ is))))
      ∙ sym none
  | inr some ↦
      let by = holder_wrote s.log rid some.0 some.1 in
      let new : wrote t.log some.0 rid ≡ true = written some.0 ∙ by.1 in
      holder_is t k rid some.0 (sym (k.busy some.0 rid new) ∙ (busy some.0 by.1 ∙ by.0)) new ∙ sym some.1
]

pub then_some_if : (b : Bool) (txn : ℕ) → then_some b txn ≡ (if b then Some txn else None)
then_some_if true txn = refl
then_some_if false txn = refl
