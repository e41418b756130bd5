-- Each key has one guard at most, and no rollback gives two rows one key.
use Rattle.std.proofs.Common.{◌≡◌, ◌≢◌, ℕ, ◌+◌, ◌<◌, ◌≤◌, true, false, List, [], ◌∷◌, length, Option, Some, None, refl, sym, ap, ◌∙◌, arith, inl, inr}
use Rattle.std.specs.Prelude.{if◌then◌else◌, not, nat_lt, ◌==◌}
use Rattle.std.proofs.lemmas.Bool.{cases_eq, cases_order, cases_Bool, and_parts, and_from, and_left, and_right, or_from, or_left, or_right, lt-ltb, le-ltb, eq-eqb, ne_eqb}
use Rattle.keybytes.specs.Keys.{KeySpecValue}
use Rattle.keybytes.specs.declared.rid.Rid.{Rid}
use Rattle.heap_log.specs.declared.record.LogRec.{LogRec}
use Rattle.heap_log.specs.Standing.{record_at, undone, is_write_of, is_write_at, stands_of, stands_at, last_below, row_at, standing_before, newest_standing, txn_of, rid_of, IsWrite}
use Rattle.heap_log.proofs.Last.{last_below_skip, last_below_agree}
use Rattle.heap_log.proofs.Numbers.{write_of}
use Rattle.heap_log.proofs.Records.{txn_of-write, writes_there, one_writer}
use Rattle.heap_table.specs.Holders.{committed}
use Rattle.key_guards.specs.UniqueKeys.{has_key, is_kept, stays_at, row_kept, KeysStayUnique, GuardsKey, WritesAreHeld, UniqueKeysAreGuarded, after_rollbacks, after_undo_step, undo_of}
use Rattle.key_guards.proofs.Steps.{stands-by, unique_now, unique_undo}

-- two transactions with standing writes at one RID that may yet be undone are one
one_there :
    (log : List LogRec) (u v n m : ℕ) (rid : Rid) → WritesAreHeld log → committed log u ≡ false → committed log v ≡ false
    → stands_of log u n ≡ true → stands_of log v m ≡ true → is_write_at rid (record_at log n) ≡ true → is_write_at rid (record_at log m) ≡ true → u ≡ v
one_there log u v n m rid held live_u live_v stands_n stands_m at_n at_m =
    let by_n : is_write_of u (record_at log n) ≡ true = (and_parts (is_write_of u (record_at log n)) (not (undone log n)) stands_n).0 in
    let by_m : is_write_of v (record_at log m) ≡ true = (and_parts (is_write_of v (record_at log m)) (not (undone log m)) stands_m).0 in
    elim (cases_order n m) [
      | inl e ↦ one_writer u v (record_at log n) by_n (ap (λ k. is_write_of v (record_at log k)) e ∙ by_m)
      | inr other ↦ elim other [
        | inl l ↦ one_writer u v (record_at log m) (held.own u n m rid live_u stands_n l at_n at_m) by_m
        | inr l ↦ sym (one_writer v u (record_at log n) (held.own v m n rid live_v stands_m l at_m at_n) by_n)
      ]
    ]

-- with one transaction cut at a write of its own, and nobody else at that RID, the row before that write is there
row_before :
    (log : List LogRec) (cut : ℕ → ℕ) (u v n : ℕ) (rid : Rid) → WritesAreHeld log → committed log u ≡ false → committed log v ≡ false → u ≢ v
    → stands_of log u n ≡ true → n < length log + 1 → is_write_at rid (record_at log n) ≡ true
    → cut u ≡ n → ((t : ℕ) → t ≢ u → t ≢ v → cut t ≡ length log + 1)
    → row_kept log cut rid ≡ row_at log (last_below (stands_at log rid) n)
row_before log cut u v n rid held live_u live_v apart stands within there at others =
    ap (row_at log)
    (last_below_skip (stays_at log cut rid) n (length log + 1) (omega (arith, within)) off
    ∙ last_below_agree (stays_at log cut rid) (stands_at log rid) n on)
  where
    by : is_write_of u (record_at log n) ≡ true
    by = (and_parts (is_write_of u (record_at log n)) (not (undone log n)) stands).0

    off : (k : ℕ) → n ≤ k → k < length log + 1 → stays_at log cut rid k ≡ false
    off k low high = elim (cases_Bool (stands_at log rid k)) [
      | inr gone ↦ and_left (stands_at log rid k) (is_kept log cut k) gone
      | inl is ↦
          let at_k : is_write_at rid (record_at log k) ≡ true = (and_parts (is_write_at rid (record_at log k)) (not (undone log k)) is).0 in
          let by_k : is_write_of u (record_at log k) ≡ true = elim (cases_eq n k) [
            | inl e ↦ ap (λ i. is_write_of u (record_at log i)) (sym e) ∙ by
            | inr ne ↦ held.own u n k rid live_u stands (omega arith) there at_k
          ] in
          let is_u : txn_of (record_at log k) ≡ u = txn_of-write u (record_at log k) by_k in
          and_right (stands_at log rid k) (is_kept log cut k)
          (or_from (committed log (txn_of (record_at log k))) (nat_lt k (cut (txn_of (record_at log k))))
          (ap (committed log) is_u ∙ live_u)
          (ap (λ t. nat_lt k (cut t)) is_u ∙ (ap (nat_lt k) at ∙ le-ltb k n low)))
    ]

    on : (k : ℕ) → k < n → stays_at log cut rid k ≡ stands_at log rid k
    on k low = elim (cases_Bool (stands_at log rid k)) [
      | inr gone ↦ and_left (stands_at log rid k) (is_kept log cut k) gone ∙ sym gone
      | inl is ↦
          let t : ℕ = txn_of (record_at log k) in
          let at_k : is_write_at rid (record_at log k) ≡ true = (and_parts (is_write_at rid (record_at log k)) (not (undone log k)) is).0 in
          let kept : is_kept log cut k ≡ true = elim (cases_Bool (committed log t)) [
            | inl done ↦ or_left (committed log t) (nat_lt k (cut t)) done
            | inr live_t ↦ or_right (committed log t) (nat_lt k (cut t)) (elim (cases_eq t u) [
              | inl is_u ↦ ap (λ x. nat_lt k (cut x)) is_u ∙ (ap (nat_lt k) at ∙ lt-ltb k n low)
              | inr not_u ↦ elim (cases_eq t v) [
                | inl is_v ↦ absurd (not_u (one_there log t u k n rid held live_t live_u (stands-by log rid k is) stands at_k there))
                | inr not_v ↦ ap (nat_lt k) (others t not_u not_v) ∙ lt-ltb k (length log + 1) (omega (arith, low, within))
              ]
            ])
          ] in
          and_from (stands_at log rid k) (is_kept log cut k) is kept ∙ sym is
    ]

-- each key has one guard
pub one_guard : (spec : KeySpecValue) (log : List LogRec) → KeysStayUnique spec log → WritesAreHeld log → (key : List ℕ) (u v : ℕ) → GuardsKey spec log u key → GuardsKey spec log v key → u ≡ v
one_guard spec log h held key u v a b = elim (cases_eq u v) [
  | inl e ↦ e
  | inr apart ↦
      let n : ℕ = a.number in
      let m : ℕ = b.number in
      let cut : ℕ → ℕ = λ t. if t == u then n else (if t == v then m else length log + 1) in
      let at_u : cut u ≡ n = rw (eq-eqb u u refl) refl in
      let at_v : cut v ≡ m = rw (ne_eqb v u (λ e. apart (sym e)), eq-eqb v v refl) refl in
      let others : (t : ℕ) → t ≢ u → t ≢ v → cut t ≡ length log + 1 = λ t not_u not_v. rw (ne_eqb t u not_u, ne_eqb t v not_v) refl in
      let write_n : IsWrite log n = write_of log u n (and_parts (is_write_of u (record_at log n)) (not (undone log n)) a.stands).0 in
      let write_m : IsWrite log m = write_of log v m (and_parts (is_write_of v (record_at log m)) (not (undone log m)) b.stands).0 in
      let p : Rid = rid_of (record_at log n) in
      let q : Rid = rid_of (record_at log m) in
      let at_p : is_write_at p (record_at log n) ≡ true = writes_there (record_at log n) write_n.write in
      let at_q : is_write_at q (record_at log m) ≡ true = writes_there (record_at log m) write_m.write in
      let row_p : row_kept log cut p ≡ row_at log (standing_before log n) = row_before log cut u v n p held a.uncommitted b.uncommitted apart a.stands (omega (arith, write_n.high)) at_p at_u others in
      let row_q : row_kept log cut q ≡ row_at log (standing_before log m) = row_before log cut v u m q held b.uncommitted a.uncommitted (λ e. apart (sym e)) b.stands (omega (arith, write_m.high)) at_q at_v (λ t not_v not_u. others t not_u not_v) in
      let same : p ≡ q = h.one cut key p q (ap (has_key spec key) row_p ∙ a.had) (ap (has_key spec key) row_q ∙ b.had) in
      one_there log u v n m q held a.uncommitted b.uncommitted a.stands b.stands (ap (λ r. is_write_at r (record_at log n)) (sym same) ∙ at_p) at_q
]

-- one undo step
step_unique : (spec : KeySpecValue) (log : List LogRec) (txn : ℕ) → KeysStayUnique spec log → KeysStayUnique spec (after_undo_step log txn)
step_unique spec log txn h = elim (cases_Bool (committed log txn)) [
  | inl done ↦ rw done h
  | inr live ↦ rw live (undoes (newest_standing log txn) refl live)
] where
  undoes : (o : Option ℕ) → newest_standing log txn ≡ o → committed log txn ≡ false → KeysStayUnique spec (undo_of log txn o)
  undoes None e live = h
  undoes (Some n) e live = unique_undo spec log txn n live e h

pub stays_unique : (spec : KeySpecValue) (txns : List ℕ) (log : List LogRec) → KeysStayUnique spec log → KeysStayUnique spec (after_rollbacks txns log)
stays_unique spec [] log h = h
stays_unique spec (txn ∷ txns) log h = stays_unique spec txns (after_undo_step log txn) (step_unique spec log txn h)

-- what the invariant tells
pub guarded : (spec : KeySpecValue) (log : List LogRec) → KeysStayUnique spec log → WritesAreHeld log → UniqueKeysAreGuarded spec log
guarded spec log h held = record {
  unique = λ txns. unique_now spec (after_rollbacks txns log) (stays_unique spec txns log h);
  one_guard = one_guard spec log h held;
}
