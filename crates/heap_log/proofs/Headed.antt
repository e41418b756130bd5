-- The heads of transactions and RIDs once a record is added.
use Rattle.std.proofs.Common.{◌≡◌, ℕ, zero, suc, get_or, add-one, ◌+◌, ◌-◌, ◌<◌, ◌≤◌, Bool, true, false, List, [], ◌∷◌, ◌++◌, length, Option, Some, None}
use Rattle.std.proofs.Common.{refl, sym, ap, ◌∙◌, arith, inl, inr}
use Rattle.std.specs.Prelude.{not, ◌==◌, IsSome}
use Rattle.std.proofs.lemmas.Bool.{cases_Bool, and_left, and_right, and_parts, eqb-true, eq-eqb, not_from_true, not_from_false, and_from, false≢true}
use Rattle.std.proofs.lemmas.Bool.{false_from_ne_true, cond-true, cond-false}
use Rattle.keybytes.specs.declared.cell.Cell.{Cell}
use Rattle.keybytes.specs.declared.rid.Rid.{Rid}
use Rattle.heap_log.specs.declared.record.LogRec.{LogRec}
use Rattle.heap_log.specs.declared.record.LogRec.TheVariants.{Write, Undo}
use Rattle.heap_log.specs.declared.txn_head.TxnHead.{TxnHead}
use Rattle.heap_log.specs.declared.rid_head.RidHead.{RidHead}
use Rattle.heap_log.specs.declared.heads.Heads.{Heads}
use Rattle.heap_log.specs.declared.chain.Chain.TheVariants.{OfTxn}
use Rattle.heap_log.specs.declared.link.Link.{Link}
use Rattle.heap_log.specs.Heads.{txn_head, rid_head, AreHeadsAfter}
use Rattle.heap_log.specs.Links.{newest_without, AreLinks, stands_by, on_chain}
use Rattle.keybytes.specs.Rids.{same_rid}
use Rattle.heap_log.specs.Standing.{record_at, undone, is_undo_of, is_write_of, is_write_at, last_of, last_at, place_of, stands_of, stands_at, newest_standing}
use Rattle.heap_log.specs.Standing.{newest_at, standing_count, NamesEarlier}
use Rattle.heap_log.proofs.Last.{count_below-some, count_below-le}
use Rattle.heap_log.proofs.Added.{last-added, undone-fresh, newest-plain, count-plain, newest-undo, count-undo, newest-unmoved, count-unmoved}
use Rattle.keybytes.proofs.SameRids.{same_rid-true, same_rid-refl}
use Rattle.heap_log.proofs.Growing.{undone-past}
use Rattle.heap_log.proofs.Records.{txn_of-write, one_writer, one_place, some_place-by, some_place-there, write_within, record_at-read}

same_txn_head : (m n o p : Option ℕ) (a b : ℕ) → m ≡ n → o ≡ p → a ≡ b
    → ◌≡◌ {A = TxnHead} (record { last = m; newest = o; standing = a }) (record { last = n; newest = p; standing = b })
same_txn_head m n o p a b e f g = rw (e, f, g) refl

same_rid_head : (m n o p : Option ℕ) → m ≡ n → o ≡ p → ◌≡◌ {A = RidHead} (record { last = m; newest = o }) (record { last = n; newest = p })
same_rid_head m n o p e f = rw (e, f) refl

-- a record that is no write and undoes nothing
pub heads-plain : (log : List LogRec) (rec : LogRec) → undone log (length log + 1) ≡ false → NamesEarlier (length log) rec
    → ((k : ℕ) → is_undo_of k rec ≡ false) → ((txn : ℕ) → is_write_of txn (Some rec) ≡ false) → ((rid : Rid) → is_write_at rid (Some rec) ≡ false)
    → AreHeadsAfter log (log ++ rec ∷ []) None
heads-plain log rec e names none of at =
    let fresh : undone (log ++ rec ∷ []) (length log + 1) ≡ false = undone-fresh log rec e names in
    record {
      txns = λ txn. same_txn_head _ _ _ _ _ _
          (last-added log rec (is_write_of txn) ∙ cond-false (is_write_of txn (Some rec)) (Some (length log + 1)) (last_of log txn (length log + 1)) (of txn))
          (newest-plain log rec (is_write_of txn) fresh none
          ∙ cond-false (is_write_of txn (Some rec)) (Some (length log + 1)) (newest_standing log txn) (of txn))
          (count-plain log rec (is_write_of txn) fresh none
          ∙ cond-false (is_write_of txn (Some rec)) (standing_count log txn + 1) (standing_count log txn) (of txn));
      rids = λ rid. same_rid_head _ _ _ _
          (last-added log rec (is_write_at rid) ∙ cond-false (is_write_at rid (Some rec)) (Some (length log + 1)) (last_at log rid (length log + 1)) (at rid))
          (newest-plain log rec (is_write_at rid) fresh none ∙ cond-false (is_write_at rid (Some rec)) (Some (length log + 1)) (newest_at log rid) (at rid));
    }

-- the heads with a write that comes next
pub heads-write : (log : List LogRec) (txn : ℕ) (rid : Rid) (row : Option (List Cell)) (heads : Heads) → undone log (length log + 1) ≡ false → heads.txn ≡ txn
    → heads.rid ≡ rid
    → heads.of_txn.last ≡ Some (length log + 1) → heads.of_txn.newest ≡ Some (length log + 1) → heads.of_txn.standing ≡ standing_count log txn + 1
    → heads.at_rid ≡ record { last = Some (length log + 1); newest = Some (length log + 1) }
    → AreHeadsAfter log (log ++ Write txn rid row ∷ []) (Some heads)
heads-write log txn rid row heads e txn_is rid_is last newest standing at_rid =
    let rec : LogRec = Write txn rid row in
    let fresh : undone (log ++ rec ∷ []) (length log + 1) ≡ false = undone-fresh log rec e tt in
    record {
      txns = λ t. elim (cases_Bool (heads.txn == t)) [
        | inl hit ↦
            let is : txn ≡ t = sym txn_is ∙ eqb-true heads.txn t hit in
            let here : (txn == t) ≡ true = eq-eqb txn t is in
            same_txn_head _ _ _ _ _ _
            (last-added log rec (is_write_of t) ∙ cond-true (txn == t) (Some (length log + 1)) (last_of log t (length log + 1)) here ∙ sym last)
            (newest-plain log rec (is_write_of t) fresh (λ k. refl) ∙ cond-true (txn == t) (Some (length log + 1)) (newest_standing log t) here ∙ sym newest)
            (count-plain log rec (is_write_of t) fresh (λ k. refl) ∙ cond-true (txn == t) (standing_count log t + 1) (standing_count log t) here
            ∙ ap (λ u. standing_count log u + 1) (sym is) ∙ sym standing)
            ∙ sym (cond-true (heads.txn == t) heads.of_txn (txn_head log t) hit)
        | inr miss ↦
            let apart : (txn == t) ≡ false = ap (λ u. u == t) (sym txn_is) ∙ miss in
            same_txn_head _ _ _ _ _ _
            (last-added log rec (is_write_of t) ∙ cond-false (txn == t) (Some (length log + 1)) (last_of log t (length log + 1)) apart)
            (newest-plain log rec (is_write_of t) fresh (λ k. refl) ∙ cond-false (txn == t) (Some (length log + 1)) (newest_standing log t) apart)
            (count-plain log rec (is_write_of t) fresh (λ k. refl) ∙ cond-false (txn == t) (standing_count log t + 1) (standing_count log t) apart)
            ∙ sym (cond-false (heads.txn == t) heads.of_txn (txn_head log t) miss)
      ];
      rids = λ r. elim (cases_Bool (same_rid heads.rid r)) [
        | inl hit ↦
            let here : same_rid rid r ≡ true = ap (λ p. same_rid p r) (sym rid_is) ∙ hit in
            same_rid_head _ _ _ _
            (last-added log rec (is_write_at r) ∙ cond-true (same_rid rid r) (Some (length log + 1)) (last_at log r (length log + 1)) here)
            (newest-plain log rec (is_write_at r) fresh (λ k. refl) ∙ cond-true (same_rid rid r) (Some (length log + 1)) (newest_at log r) here)
            ∙ sym at_rid ∙ sym (cond-true (same_rid heads.rid r) heads.at_rid (rid_head log r) hit)
        | inr miss ↦
            let apart : same_rid rid r ≡ false = ap (λ p. same_rid p r) (sym rid_is) ∙ miss in
            same_rid_head _ _ _ _
            (last-added log rec (is_write_at r) ∙ cond-false (same_rid rid r) (Some (length log + 1)) (last_at log r (length log + 1)) apart)
            (newest-plain log rec (is_write_at r) fresh (λ k. refl) ∙ cond-false (same_rid rid r) (Some (length log + 1)) (newest_at log r) apart)
            ∙ sym (cond-false (same_rid heads.rid r) heads.at_rid (rid_head log r) miss)
      ];
    }

-- the undo of a record that stands for no transaction and at no RID
pub heads-unmoved : (log : List LogRec) (txn n : ℕ) → undone log (length log + 1) ≡ false → NamesEarlier (length log) (Undo txn n)
    → ((t : ℕ) → stands_of log t n ≡ false) → ((r : Rid) → stands_at log r n ≡ false) → AreHeadsAfter log (log ++ Undo txn n ∷ []) None
heads-unmoved log txn n e within of at =
    let fresh : undone (log ++ Undo txn n ∷ []) (length log + 1) ≡ false = undone-fresh log (Undo txn n) e within in
    record {
      txns = λ t. same_txn_head _ _ _ _ _ _ (last-added log (Undo txn n) (is_write_of t)) (newest-unmoved log txn n (is_write_of t) fresh refl (of t))
          (count-unmoved log txn n (is_write_of t) fresh refl within.1 (of t));
      rids = λ r. same_rid_head _ _ _ _ (last-added log (Undo txn n) (is_write_at r)) (newest-unmoved log txn n (is_write_at r) fresh refl (at r));
    }

-- a record that is undone already
pub heads-undone : (log : List LogRec) (txn n : ℕ) → undone log (length log + 1) ≡ false → NamesEarlier (length log) (Undo txn n) → undone log n ≡ true
    → AreHeadsAfter log (log ++ Undo txn n ∷ []) None
heads-undone log txn n e within gone =
    heads-unmoved log txn n e within
    (λ t. and_right (is_write_of t (record_at log n)) (not (undone log n)) (not_from_true (undone log n) gone))
    (λ r. and_right (is_write_at r (record_at log n)) (not (undone log n)) (not_from_true (undone log n) gone))

-- a record that is no write
pub heads-no_write : (log : List LogRec) (txn n : ℕ) → undone log (length log + 1) ≡ false → NamesEarlier (length log) (Undo txn n)
    → (IsSome (place_of (record_at log n)) → ⊥) → AreHeadsAfter log (log ++ Undo txn n ∷ []) None
heads-no_write log txn n e within none =
    heads-unmoved log txn n e within
    (λ t. and_left (is_write_of t (record_at log n)) (not (undone log n))
    (false_from_ne_true (is_write_of t (record_at log n)) (λ f. none (some_place-by t (record_at log n) f))))
    (λ r. and_left (is_write_at r (record_at log n)) (not (undone log n))
    (false_from_ne_true (is_write_at r (record_at log n)) (λ f. none (some_place-there r (record_at log n) f))))

-- the undo of a standing write
pub heads-undo : (log : List LogRec) (txn n : ℕ) (heads : Heads) → undone log (length log + 1) ≡ false → NamesEarlier (length log) (Undo txn n)
    → stands_of log heads.txn n ≡ true → stands_at log heads.rid n ≡ true
    → heads.of_txn.last ≡ last_of log heads.txn (length log + 1)
    → heads.of_txn.newest ≡ newest_without (is_write_of heads.txn) log n
    → heads.of_txn.standing ≡ standing_count log heads.txn - 1
    → heads.at_rid.last ≡ last_at log heads.rid (length log + 1)
    → heads.at_rid.newest ≡ newest_without (is_write_at heads.rid) log n
    → AreHeadsAfter log (log ++ Undo txn n ∷ []) (Some heads)
heads-undo log txn n heads e within of at last newest standing last_there newest_there =
    let rec : LogRec = Undo txn n in
    let fresh : undone (log ++ rec ∷ []) (length log + 1) ≡ false = undone-fresh log rec e within in
    let by = and_parts (is_write_of heads.txn (record_at log n)) (not (undone log n)) of in
    let there = and_parts (is_write_at heads.rid (record_at log n)) (not (undone log n)) at in
    record {
      txns = λ t. elim (cases_Bool (heads.txn == t)) [
        | inl hit ↦
            let is : heads.txn ≡ t = eqb-true heads.txn t hit in
            let stands : stands_of log t n ≡ true = ap (λ u. stands_of log u n) (sym is) ∙ of in
            let head : ◌≡◌ {A = TxnHead} (txn_head (log ++ rec ∷ []) t) heads.of_txn =
            same_txn_head _ _ _ _ _ _
            (last-added log rec (is_write_of t) ∙ ap (λ u. last_of log u (length log + 1)) (sym is) ∙ sym last)
            (newest-undo log txn n (is_write_of t) fresh refl ∙ ap (λ u. newest_without (is_write_of u) log n) (sym is) ∙ sym newest)
            (count-undo log txn n (is_write_of t) fresh refl within.1 ∙ cond-true (stands_of log t n) (standing_count log t - 1) (standing_count log t) stands
            ∙ ap (λ u. standing_count log u - 1) (sym is) ∙ sym standing)
            in head ∙ sym (cond-true (heads.txn == t) heads.of_txn (txn_head log t) hit)
        | inr miss ↦
            let gone : stands_of log t n ≡ false = and_left (is_write_of t (record_at log n)) (not (undone log n))
            (false_from_ne_true (is_write_of t (record_at log n))
            (λ f. false≢true (sym miss ∙ eq-eqb heads.txn t (one_writer heads.txn t (record_at log n) by.0 f)))) in
            same_txn_head _ _ _ _ _ _ (last-added log rec (is_write_of t)) (newest-unmoved log txn n (is_write_of t) fresh refl gone)
            (count-unmoved log txn n (is_write_of t) fresh refl within.1 gone)
            ∙ sym (cond-false (heads.txn == t) heads.of_txn (txn_head log t) miss)
      ];
      rids = λ r. elim (cases_Bool (same_rid heads.rid r)) [
        | inl hit ↦
            let is : heads.rid ≡ r = same_rid-true heads.rid r hit in
            let head : ◌≡◌ {A = RidHead} (rid_head (log ++ rec ∷ []) r) heads.at_rid =
            same_rid_head _ _ _ _
            (last-added log rec (is_write_at r) ∙ ap (λ p. last_at log p (length log + 1)) (sym is) ∙ sym last_there)
            (newest-undo log txn n (is_write_at r) fresh refl ∙ ap (λ p. newest_without (is_write_at p) log n) (sym is) ∙ sym newest_there)
            in head ∙ sym (cond-true (same_rid heads.rid r) heads.at_rid (rid_head log r) hit)
        | inr miss ↦
            let gone : stands_at log r n ≡ false = and_left (is_write_at r (record_at log n)) (not (undone log n))
            (false_from_ne_true (is_write_at r (record_at log n))
            (λ f. false≢true (sym miss ∙ ap (same_rid heads.rid) (sym (one_place heads.rid r (record_at log n) there.0 f)) ∙ same_rid-refl heads.rid))) in
            same_rid_head _ _ _ _ (last-added log rec (is_write_at r)) (newest-unmoved log txn n (is_write_at r) fresh refl gone)
            ∙ sym (cond-false (same_rid heads.rid r) heads.at_rid (rid_head log r) miss)
      ];
    }

-- the chain of a write is its transaction's, and its RID's
pub on_chain-of : (txn : ℕ) (rec : Option LogRec) → is_write_of txn rec ≡ true → on_chain OfTxn rec ≡ is_write_of txn
on_chain-of txn rec e = ap is_write_of (txn_of-write txn rec e)

-- a standing write counts
pub standing-some : (log : List LogRec) (txn n : ℕ) → stands_of log txn n ≡ true → 0 < standing_count log txn
standing-some log txn n e =
    let by = and_parts (is_write_of txn (record_at log n)) (not (undone log n)) e in
    count_below-some (stands_of log txn) (length log + 1) n (write_within log n (is_write_of txn) refl by.0).1 e

-- not more stand than there are records
pub standing-le : (log : List LogRec) (txn : ℕ) → standing_count log txn ≤ length log
standing-le log txn = count_below-le (stands_of log txn) (length log) refl

-- the record of that number, as it was read
pub undone-read : (log : List LogRec) (links : List Link) → AreLinks log links → (n : ℕ) (link : Link) → 1 ≤ n → n ≤ length log
    → link ≡ get_or links (n - 1) link → undone log n ≡ link.undone
undone-read log links h zero link low high is = absurd (omega arith)
undone-read log links h (suc i) link low high is =
    let l : i < length log = omega arith in
    let less : suc i - 1 ≡ i = omega arith in
    sym (rw less at (ap (λ x. x.undone) is) ∙ rw add-one at (h.flags i link l))

pub stands-read : (log : List LogRec) (links : List Link) → AreLinks log links → (passes : Option LogRec → Bool) (n : ℕ) (link : Link) (rec : LogRec) → 1 ≤ n
    → n ≤ length log → rec ≡ get_or log (n - 1) rec → link ≡ get_or links (n - 1) link → link.undone ≡ false → passes (Some rec) ≡ true
    → stands_by passes log n ≡ true
stands-read log links h passes n link rec low high is link_is stands e =
    and_from (passes (record_at log n)) (not (undone log n)) (ap passes (record_at-read log n rec low high is) ∙ e)
    (not_from_false (undone log n) (undone-read log links h n link low high link_is ∙ stands))

-- an undo of a record that is read and is no write
pub heads-other : (log : List LogRec) (links : List Link) → AreLinks log links → (txn n : ℕ) (rec : LogRec) → 1 ≤ n → n ≤ length log
    → rec ≡ get_or log (n - 1) rec → (IsSome (place_of (Some rec)) → ⊥) → AreHeadsAfter log (log ++ Undo txn n ∷ []) None
heads-other log links h txn n rec low high is none =
    let past : undone log (length log + 1) ≡ false = undone-past log h.earlier (length log + 1) (omega arith) in
    heads-no_write log txn n past (low, high) (λ some. none (rw (record_at-read log n rec low high is) at some))
