-- What a table keeps of its transactions: their places, and which writes are of such that have ended.
use Rattle.std.proofs.Common.{◌≡◌, ℕ, ◌+◌, ◌<◌, ◌≤◌, true, false, List, [], ◌∷◌, ◌++◌, length, Some, None, refl, sym, ap, ◌∙◌, arith, inl, inr}
use Rattle.std.specs.Prelude.{◌==◌, ◌||◌}
use Rattle.std.proofs.Math.Bool.{or-false}
use Rattle.std.proofs.lemmas.Bool.{cases_Bool, eqb-true, ne_eqb, false≢true, false_from_ne_true, cond-false}
use Rattle.keybytes.specs.declared.rid.Rid.{Rid}
use Rattle.heap_log.specs.declared.record.LogRec.{LogRec}
use Rattle.heap_log.specs.Standing.{record_at, is_write_of, txn_of, rid_of, last_at, IsWrite}
use Rattle.heap_log.proofs.Records.{record_at-kept, length-added, writes_by, writes_there, some_place-by}
use Rattle.heap_table.specs.HeapState.{HeapState, is_open}
use Rattle.heap_table.specs.Holders.{holder}
use Rattle.heap_table.specs.Kept.{TxnsAreKept, ended_to}
use Rattle.heap_table.specs.Sound.{IsSound}
use Rattle.heap_table.specs.declared.open_txn.OpenTxn.{OpenTxn}
use Rattle.heap_table.proofs.Holding.{holder_last}
use Rattle.heap_table.proofs.OpenOnes.{open_begun}
use Rattle.heap_table.proofs.Writers.{wrote_from}

-- no more are open
abbrev pub OpensNone : HeapState → HeapState → Type 0
OpensNone s t = (txn : ℕ) → is_open t.active txn ≡ true → is_open s.active txn ≡ true

still_closed : (s t : HeapState) (txn : ℕ) → OpensNone s t → is_open s.active txn ≡ false → is_open t.active txn ≡ false
still_closed s t txn fewer closed = false_from_ne_true (is_open t.active txn) (λ e. false≢true (sym closed ∙ fewer txn e))

-- nothing is written, and none opened
pub txns_same : (s t : HeapState) (places more ended : ℕ) → TxnsAreKept s places ended → t.log ≡ s.log → OpensNone s t → places ≤ more
    → TxnsAreKept t more ended
txns_same s t places more ended h is fewer grown = record {
  placed = λ txn e. let l = h.placed txn (fewer txn e) in omega (arith, l, grown);
  within = omega (arith, h.within, ap length is);
  over = λ txn n low by. still_closed s t txn fewer (h.over txn n low (ap (λ (log : List LogRec). is_write_of txn (record_at log n)) (sym is) ∙ by));
}

-- a record more, and none opened
pub txns_added : (s t : HeapState) (places more ended : ℕ) (rec : LogRec) → TxnsAreKept s places ended → t.log ≡ s.log ++ rec ∷ [] → OpensNone s t
    → places ≤ more → TxnsAreKept t more ended
txns_added s t places more ended rec h is fewer grown = record {
  placed = λ txn e. let l = h.placed txn (fewer txn e) in omega (arith, l, grown);
  within = omega (arith, h.within, ap length is, length-added s.log rec);
  over = λ txn n low by.
      let same : record_at t.log n ≡ record_at s.log n =
      ap (λ (log : List LogRec). record_at log n) is ∙ record_at-kept s.log rec n (omega (arith, low, h.within)) in
      still_closed s t txn fewer (h.over txn n low (ap (is_write_of txn) (sym same) ∙ by));
}

-- all that was written is of transactions that have ended, where none is open
noted : (s : HeapState) (active : List OpenTxn) (places ended : ℕ) → active ≡ s.active → TxnsAreKept s places ended
    → TxnsAreKept s places (ended_to active s.log ended)
noted s [] places ended same h = record {
  placed = h.placed;
  within = omega arith;
  over = λ txn n low by. ap (λ (a : List OpenTxn). is_open a txn) (sym same);
}
noted s (t ∷ active) places ended same h = h

-- one more is open, of which nothing is written yet
pub txns_begun : (s t : HeapState) (places more ended next : ℕ) → IsSound s → TxnsAreKept s places ended → t.log ≡ s.log
    → t.active ≡ s.active ++ record { txn = s.begun + 1; ending = false } ∷ [] → places ≤ more → s.begun + 1 < more
    → next ≡ ended_to s.active s.log ended → TxnsAreKept t more next
txns_begun s t places more ended next sound h is active grown place noting =
    let now = noted s s.active places ended refl h in
    let open_now : (txn : ℕ) → is_open t.active txn ≡ (is_open s.active txn || (s.begun + 1 == txn)) =
    λ txn. ap (λ (a : List OpenTxn). is_open a txn) active ∙ open_begun (s.begun + 1) txn s.active in
    record {
      placed = λ txn e. elim (cases_Bool (is_open s.active txn)) [
        | inl old ↦ let l = h.placed txn old in omega (arith, l, grown)
        | inr new ↦
            let hit : (s.begun + 1 == txn) ≡ true = sym (ap (λ b. b || (s.begun + 1 == txn)) new) ∙ sym (open_now txn) ∙ e in
            let same = eqb-true (s.begun + 1) txn hit in omega (arith, same, place)
      ];
      within = omega (arith, now.within, ap length is, noting);
      over = λ txn n low by.
          let there : is_write_of txn (record_at s.log n) ≡ true = ap (λ (log : List LogRec). is_write_of txn (record_at log n)) (sym is) ∙ by in
          let before : txn ≤ s.begun = begun_before s sound txn n there in
          let apart : (s.begun + 1 == txn) ≡ false = ne_eqb (s.begun + 1) txn (λ same. absurd (omega (arith, before, same))) in
          open_now txn ∙ rw apart (or-false (is_open s.active txn)) ∙ now.over txn n (omega (arith, low, noting)) there;
    }
  where
    begun_before : (s : HeapState) → IsSound s → (txn n : ℕ) → is_write_of txn (record_at s.log n) ≡ true → txn ≤ s.begun
    begun_before s sound txn n by =
        let rec = record_at s.log n in
        let rid = rid_of rec in
        sound.writers txn rid (wrote_from s.log txn rid n by (writes_there rec (some_place-by txn rec by)))

-- who wrote last at a RID has ended, so nobody holds it
pub nobody_holds : (s : HeapState) (places ended : ℕ) (rid : Rid) (n : ℕ) → IsSound s → TxnsAreKept s places ended
    → last_at s.log rid (length s.log + 1) ≡ Some n → IsWrite s.log n → n ≤ ended → holder s.log rid ≡ None
nobody_holds s places ended rid n sound h last is low =
    let rec = record_at s.log n in
    let by : is_write_of (txn_of rec) rec ≡ true = writes_by rec is.write in
    holder_last s sound rid n (txn_of rec) last by ∙ cond-false (is_open s.active (txn_of rec)) (Some (txn_of rec)) None (h.over (txn_of rec) n low by)
