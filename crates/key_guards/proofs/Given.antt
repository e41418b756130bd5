-- A write that gives a RID a key.
use Rattle.std.proofs.Common.{◌≡◌, ◌≢◌, ℕ, ◌+◌, ◌<◌, ◌≤◌, Bool, true, false, List, [], ◌∷◌, ◌++◌, length, Option, Some, None, refl, sym, ap, ◌∙◌, arith, inl, inr}
use Rattle.std.specs.Prelude.{◌&&◌, ◌||◌, not, nat_lt}
use Rattle.std.proofs.lemmas.Bool.{cases_Bool, false≢true, and_parts, or_parts, or_left, or_right, lt-ltb, ltb-true, ltb-false}
use Rattle.keybytes.specs.Keys.{KeySpecValue}
use Rattle.keybytes.specs.declared.cell.Cell.{Cell}
use Rattle.keybytes.specs.declared.rid.Rid.{Rid}
use Rattle.keybytes.specs.Rids.{same_rid}
use Rattle.keybytes.proofs.SameRids.{same_rid-true, same_rid-refl}
use Rattle.heap_log.specs.declared.record.LogRec.{LogRec}
use Rattle.heap_log.specs.declared.record.LogRec.TheVariants.{Write}
use Rattle.heap_log.specs.Standing.{record_at, undone, is_write_at, stands_at, last_below, row_at, live_at, txn_of}
use Rattle.heap_log.proofs.Last.{IsLast, last_below_some}
use Rattle.heap_log.proofs.Records.{or_no, rid_of-write}
use Rattle.heap_table.specs.Holders.{committed}
use Rattle.heap_table.proofs.Writers.{committed-added}
use Rattle.key_guards.specs.UniqueKeys.{has_key, is_kept, stays_at, row_kept, KeysStayUnique, GuardsKey, IsFreeFor, GivesKey, MayGive}
use Rattle.key_guards.proofs.Rows.{stays-added, stays-new, row_kept-old, row_kept-new, row_kept-live, Taken, taken_above}
use Rattle.key_guards.proofs.Steps.{stands-by}

-- some number was found where there is a row with a key
pub kept_with_key :
    (spec : KeySpecValue) (key : List ℕ) (log : List LogRec) (o : Option ℕ) → has_key spec key (row_at log o) ≡ true
    → (n : ℕ) × (o ≡ Some n)
kept_with_key spec key log None e = absurd (false≢true e)
kept_with_key spec key log (Some n) e = (n, refl)

-- the standing write that took the key from a RID where it is kept
pub record TakenKey (spec : KeySpecValue) (key : List ℕ) (log : List LogRec) (cut : ℕ → ℕ) (rid : Rid) : Type 0 where
  pub txn : ℕ
  pub guards : GuardsKey spec log txn key
  pub cut_off : cut txn ≤ guards.number
  pub within : guards.number < length log + 1

-- a key that a cut brings back to a RID has a guard, and is cut off at that guard
pub guard_of_kept :
    (spec : KeySpecValue) (key : List ℕ) (log : List LogRec) (cut : ℕ → ℕ) (rid : Rid)
    → has_key spec key (row_kept log cut rid) ≡ true → has_key spec key (live_at log rid) ≡ false → TakenKey spec key log cut rid
guard_of_kept spec key log cut rid kept now =
    let p : ℕ → Bool = stands_at log rid in
    let has : Option ℕ → Bool = λ o. has_key spec key (row_at log o) in
    let found : (n : ℕ) × (last_below (stays_at log cut rid) (length log + 1) ≡ Some n) = kept_with_key spec key log (last_below (stays_at log cut rid) (length log + 1)) kept in
    let m : ℕ = found.0 in
    let last : IsLast (stays_at log cut rid) (length log + 1) m = last_below_some (stays_at log cut rid) (length log + 1) m found.1 in
    let stands : p m ≡ true = (and_parts (p m) (is_kept log cut m) last.passes).0 in
    let here : has (Some m) ≡ true = ap has (sym found.1) ∙ kept in
    let t : Taken p has m (length log + 1) = taken_above p has (length log + 1) m last.below stands here now in
    let w : ℕ = t.number in
    let writer : ℕ = txn_of (record_at log w) in
    let parts : (is_write_at rid (record_at log w) ≡ true) × (not (undone log w) ≡ true) = and_parts (is_write_at rid (record_at log w)) (not (undone log w)) t.passes in
    let gone : (committed log writer ≡ false) × (nat_lt w (cut writer) ≡ false) =
    or_parts (committed log writer) (nat_lt w (cut writer)) (sym (ap (λ b. b && is_kept log cut w) t.passes) ∙ last.after w t.above t.below) in
    record {
      txn = writer;
      guards = record {
        uncommitted = gone.0;
        number = w;
        stands = stands-by log rid w t.passes;
        had = ap (λ r. has_key spec key (row_at log (last_below (stands_at log r) w))) (rid_of-write rid (record_at log w) parts.0) ∙ t.had;
        took = t.took;
      };
      cut_off = ltb-false w (cut writer) gone.1;
      within = t.below;
    }

-- where the new write is kept, no other RID has its key
clash :
    (spec : KeySpecValue) (log : List LogRec) (txn : ℕ) (rid : Rid) (row : Option (List Cell)) (cut : ℕ → ℕ) (key : List ℕ) (q : Rid)
    → KeysStayUnique spec log → IsFreeFor log txn rid → MayGive spec log txn rid row → length log + 1 < cut txn
    → has_key spec key row ≡ true → has_key spec key (row_kept log cut q) ≡ true → rid ≡ q
clash spec log txn rid row cut key q h free may above has there = elim (cases_Bool (has_key spec key (live_at log rid))) [
  | inl same ↦ h.one cut key rid q (ap (has_key spec key) (row_kept-live log cut rid own) ∙ same) there
  | inr new ↦ elim (cases_Bool (same_rid q rid)) [
    | inl is ↦ sym (same_rid-true q rid is)
    | inr differs ↦
        let gives : GivesKey spec log rid row key = record { has = has; new = new } in
        let other : q ≢ rid = λ e. false≢true (sym differs ∙ (ap (same_rid q) (sym e) ∙ same_rid-refl q)) in
        let taken : TakenKey spec key log cut q = guard_of_kept spec key log cut q there (may.unshared key q gives other) in
        let apart : taken.txn ≢ txn = λ e. late taken.guards.number (cut taken.txn) (cut txn) taken.within taken.cut_off (ap cut e) above in
        absurd (may.unguarded key taken.txn gives apart taken.guards)
  ]
] where
  late : (n c d : ℕ) → n < length log + 1 → c ≤ n → c ≡ d → length log + 1 < d → ⊥
  late n c d a b e f = omega arith

  own : (n : ℕ) → n < length log + 1 → stands_at log rid n ≡ true → is_kept log cut n ≡ true
  own n l is = elim (cases_Bool (committed log (txn_of (record_at log n)))) [
    | inl done ↦ or_left (committed log (txn_of (record_at log n))) (nat_lt n (cut (txn_of (record_at log n)))) done
    | inr open' ↦
        let same : txn_of (record_at log n) ≡ txn = free.own (txn_of (record_at log n)) n open' (stands-by log rid n is) (and_parts (is_write_at rid (record_at log n)) (not (undone log n)) is).0 in
        or_right (committed log (txn_of (record_at log n))) (nat_lt n (cut (txn_of (record_at log n))))
        (ap (λ t. nat_lt n (cut t)) same ∙ lt-ltb n (cut txn) (omega (arith, above, l)))
  ]

-- the new write, kept at a RID: it is there, and above no cut
pub record IsNew (log : List LogRec) (txn : ℕ) (rid : Rid) (cut : ℕ → ℕ) (q : Rid) : Type 0 where
  pub there : rid ≡ q
  pub above : length log + 1 < cut txn

new_kept : (log : List LogRec) (txn : ℕ) (rid : Rid) (row : Option (List Cell)) (cut : ℕ → ℕ) (q : Rid) → committed log txn ≡ false → stays_at (log ++ Write txn rid row ∷ []) cut q (length log + 1) ≡ true → IsNew log txn rid cut q
new_kept log txn rid row cut q live is =
    let new : List LogRec = log ++ Write txn rid row ∷ [] in
    let parts = and_parts (same_rid rid q && not (undone new (length log + 1))) (committed new txn || nat_lt (length log + 1) (cut txn)) (sym (stays-new log (Write txn rid row) cut q) ∙ is) in
    let still : committed new txn ≡ false = committed-added log (Write txn rid row) txn ∙ or_no (committed log txn) ∙ live in
    record {
      there = same_rid-true rid q (and_parts (same_rid rid q) (not (undone new (length log + 1))) parts.0).0;
      above = ltb-true (length log + 1) (cut txn) (sym (ap (λ b. b || nat_lt (length log + 1) (cut txn)) still) ∙ parts.1);
    }

-- a write that gives no key, or one that nobody else has or guards
pub unique_write :
    (spec : KeySpecValue) (log : List LogRec) (txn : ℕ) (rid : Rid) (row : Option (List Cell))
    → committed log txn ≡ false → IsFreeFor log txn rid → MayGive spec log txn rid row
    → KeysStayUnique spec log → KeysStayUnique spec (log ++ Write txn rid row ∷ [])
unique_write spec log txn rid row live free may h = record {
  one = λ cut key p q a b.
      elim (cases_Bool (stays_at (log ++ Write txn rid row ∷ []) cut p (length log + 1))) [
        | inl p_new ↦ elim (cases_Bool (stays_at (log ++ Write txn rid row ∷ []) cut q (length log + 1))) [
          | inl q_new ↦ sym (new_kept log txn rid row cut p live p_new).there ∙ (new_kept log txn rid row cut q live q_new).there
          | inr q_old ↦ mixed cut key p q p_new q_old a b
        ]
        | inr p_old ↦ elim (cases_Bool (stays_at (log ++ Write txn rid row ∷ []) cut q (length log + 1))) [
          | inl q_new ↦ sym (mixed cut key q p q_new p_old b a)
          | inr q_old ↦ h.one cut key p q (ap (has_key spec key) (sym (same cut p p_old)) ∙ a) (ap (has_key spec key) (sym (same cut q q_old)) ∙ b)
        ]
      ];
}
  where
    same : (cut : ℕ → ℕ) (place : Rid) → stays_at (log ++ Write txn rid row ∷ []) cut place (length log + 1) ≡ false → row_kept (log ++ Write txn rid row ∷ []) cut place ≡ row_kept log cut place
    same cut place none = row_kept-old log (Write txn rid row) cut cut place none (λ n l.
        stays-added log (Write txn rid row) cut place n l
        ∙ rw (or_no (undone log n), or_no (committed log (txn_of (record_at log n)))) refl)

    mixed : (cut : ℕ → ℕ) (key : List ℕ) (p q : Rid) → stays_at (log ++ Write txn rid row ∷ []) cut p (length log + 1) ≡ true → stays_at (log ++ Write txn rid row ∷ []) cut q (length log + 1) ≡ false
        → has_key spec key (row_kept (log ++ Write txn rid row ∷ []) cut p) ≡ true → has_key spec key (row_kept (log ++ Write txn rid row ∷ []) cut q) ≡ true → p ≡ q
    mixed cut key p q p_new q_old a b =
        let is : IsNew log txn rid cut p = new_kept log txn rid row cut p live p_new in
        sym is.there
        ∙ clash spec log txn rid row cut key q h free may is.above
        (ap (has_key spec key) (sym (row_kept-new log (Write txn rid row) cut p p_new)) ∙ a)
        (ap (has_key spec key) (sym (same cut q q_old)) ∙ b)
