-- A table whose holds follow its log keeps a unique index's keys apart in each of its calls.
use Rattle.std.proofs.Common.{◌≡◌, ℕ, ◌+◌, true, false, List, [], ◌∷◌, length, Option, Some, None, sym, ap, ◌∙◌, arith, inl, inr}
use Rattle.std.specs.Prelude.{not, nat_lt, ◌==◌, filter}
use Rattle.std.proofs.lemmas.Bool.{cases_Bool, cond-true, cond-false, false≢true, and_parts, and_from, not_from_false, lt-ltb, eqb-true, or_cases}
use Rattle.keybytes.specs.Keys.{KeySpecValue}
use Rattle.keybytes.specs.declared.cell.Cell.{Cell}
use Rattle.keybytes.specs.declared.rid.Rid.{Rid}
use Rattle.keybytes.specs.declared.fault.Fault.TheVariants.{RowHeld}
use Rattle.heap_log.specs.declared.record.LogRec.{LogRec}
use Rattle.heap_log.specs.Standing.{live_at, record_at, undone, is_write_of, is_write_at, stands_of, standing_count, rid_of, IsWrite}
use Rattle.heap_log.proofs.Last.{count_below-some}
use Rattle.heap_log.proofs.Numbers.{write_of}
use Rattle.heap_log.proofs.Records.{writes_there}
use Rattle.heap_table.specs.declared.open_txn.OpenTxn.{OpenTxn}
use Rattle.heap_table.specs.HeapState.{HeapState, is_open, held_refusal, busy_txns, after_write}
use Rattle.heap_table.specs.Holders.{committed, is_busy, holder}
use Rattle.heap_table.specs.Sound.{HoldsFollowLog}
use Rattle.heap_table.proofs.Writers.{wrote_from}
use Rattle.key_guards.specs.UniqueKeys.{KeysStayUnique, AllIsCommitted, IsFreeFor, WritesAreHeld}
use Rattle.key_guards.specs.KeyRefusals.{key_refusal}
use Rattle.key_guards.proofs.Given.{unique_write}
use Rattle.key_guards.proofs.Refusals.{may_give}

-- a transaction with a standing write that has not committed is busy
pub busy_by : (log : List LogRec) (txn n : ℕ) → committed log txn ≡ false → stands_of log txn n ≡ true → is_busy log txn ≡ true
busy_by log txn n live stands =
    let by : is_write_of txn (record_at log n) ≡ true = (and_parts (is_write_of txn (record_at log n)) (not (undone log n)) stands).0 in
    let w : IsWrite log n = write_of log txn n by in
    and_from (nat_lt 0 (standing_count log txn)) (not (committed log txn))
    (lt-ltb 0 (standing_count log txn) (count_below-some (stands_of log txn) (length log + 1) n (omega (arith, w.high)) stands))
    (not_from_false (committed log txn) live)

-- and holds the RIDs of its writes
pub holds_by : (s : HeapState) (txn n : ℕ) (rid : Rid) → HoldsFollowLog s → committed s.log txn ≡ false → stands_of s.log txn n ≡ true → is_write_at rid (record_at s.log n) ≡ true → holder s.log rid ≡ Some txn
holds_by s txn n rid holds live stands at =
    holds.alone txn rid (busy_by s.log txn n live stands)
    (wrote_from s.log txn rid n (and_parts (is_write_of txn (record_at s.log n)) (not (undone s.log n)) stands).0 at)

pub writes_are_held : (s : HeapState) → HoldsFollowLog s → WritesAreHeld s.log
writes_are_held s holds = record {
  own = λ txn n m rid live stands l at_n at_m.
      holds.held txn n m rid (holds_by s txn n rid holds live stands at_n) l
      (and_parts (is_write_of txn (record_at s.log n)) (not (undone s.log n)) stands).0 at_n at_m;
}

-- a RID that nobody else holds is free for the transaction
pub is_free_for : (s : HeapState) (txn : ℕ) (rid : Rid) → HoldsFollowLog s → held_refusal txn (holder s.log rid) ≡ None → IsFreeFor s.log txn rid
is_free_for s txn rid holds free = record {
  own = λ other n live stands at.
      unheld other (ap (held_refusal txn) (sym (holds_by s other n rid holds live stands at)) ∙ free);
}
  where
    refused : (other : ℕ) → Some (RowHeld other) ≡ None → ⊥
    refused other f = cc

    unheld : (other : ℕ) → held_refusal txn (Some other) ≡ None → other ≡ txn
    unheld other e = elim (cases_Bool (other == txn)) [
      | inl same ↦ eqb-true other txn same
      | inr differs ↦ absurd (refused other (sym (cond-false (other == txn) None (Some (RowHeld other)) differs) ∙ e))
    ]

-- where no open transaction has a standing write, everything that stands is committed
listed_busy : (log : List LogRec) (txn : ℕ) (active : List OpenTxn) → is_open active txn ≡ true → nat_lt 0 (standing_count log txn) ≡ true → filter (λ t. nat_lt 0 (standing_count log t.txn)) active ≡ [] → ⊥
listed_busy log txn [] opened busy none = false≢true opened
listed_busy log txn (t ∷ ts) opened busy none = elim (cases_Bool (nat_lt 0 (standing_count log t.txn))) [
  | inl hit ↦ full (sym (cond-true (nat_lt 0 (standing_count log t.txn)) (t ∷ filter (λ u. nat_lt 0 (standing_count log u.txn)) ts) (filter (λ u. nat_lt 0 (standing_count log u.txn)) ts) hit) ∙ none)
  | inr miss ↦ elim (or_cases (t.txn == txn) (is_open ts txn) opened) [
    | inl here ↦ false≢true (sym miss ∙ (ap (λ u. nat_lt 0 (standing_count log u)) (eqb-true t.txn txn here) ∙ busy))
    | inr rest ↦ listed_busy log txn ts rest busy (sym (cond-false (nat_lt 0 (standing_count log t.txn)) (t ∷ filter (λ u. nat_lt 0 (standing_count log u.txn)) ts) (filter (λ u. nat_lt 0 (standing_count log u.txn)) ts) miss) ∙ none)
  ]
] where
  full : {x : OpenTxn} {xs : List OpenTxn} → x ∷ xs ≡ [] → ⊥
  full f = cc

pub all_committed : (s : HeapState) → HoldsFollowLog s → busy_txns s ≡ [] → AllIsCommitted s.log
all_committed s holds none = record {
  each = λ txn n stands. elim (cases_Bool (committed s.log txn)) [
    | inl done ↦ done
    | inr live ↦
        let by : is_write_of txn (record_at s.log n) ≡ true = (and_parts (is_write_of txn (record_at s.log n)) (not (undone s.log n)) stands).0 in
        let w : IsWrite s.log n = write_of s.log txn n by in
        let rid : Rid = rid_of (record_at s.log n) in
        let opened : is_open s.active txn ≡ true = holds.is_open txn rid (holds_by s txn n rid holds live stands (writes_there (record_at s.log n) w.write)) in
        let busy : nat_lt 0 (standing_count s.log txn) ≡ true = (and_parts (nat_lt 0 (standing_count s.log txn)) (not (committed s.log txn)) (busy_by s.log txn n live stands)).0 in
        absurd (listed_busy s.log txn s.active opened busy none)
  ];
}

-- and stays so where a row is written
pub write_keeps :
    (index : ℕ) (spec : KeySpecValue) (s : HeapState) (txn : ℕ) (rid : Rid) (row : Option (List Cell)) → HoldsFollowLog s → committed s.log txn ≡ false
    → held_refusal txn (holder s.log rid) ≡ None → key_refusal index spec s.log txn (live_at s.log rid) row ≡ None
    → KeysStayUnique spec s.log → KeysStayUnique spec (after_write s txn rid row).log
write_keeps index spec s txn rid row holds live free accepted h =
    unique_write spec s.log txn rid row live (is_free_for s txn rid holds free) (may_give index spec s.log txn rid row accepted) h
