-- The heads that a record changes have places, and those of RIDs numbers that can be kept.
use Rattle.std.proofs.Common.{◌≡◌, ℕ, ◌+◌, ◌<◌, true, List, length, Option, Some, None, refl, sym, ap, ◌∙◌, inl, inr, subst}
use Rattle.std.specs.Prelude.{IfSome}
use Rattle.std.proofs.lemmas.Bool.{cases_lt, cond-true, eqb-true, false≢true}
use Rattle.std.proofs.lemmas.List.{get_or_past}
use Rattle.std.proofs.lemmas.Option.{same_Some}
use Rattle.keybytes.specs.Rids.{same_rid}
use Rattle.keybytes.specs.declared.rid.Rid.{Rid}
use Rattle.keybytes.proofs.SameRids.{same_rid-refl}
use Rattle.heap_log.specs.declared.record.LogRec.{LogRec}
use Rattle.heap_log.specs.declared.record.LogRec.TheVariants.{Write, Undo, Commit, Switch}
use Rattle.heap_log.specs.declared.rid_head.RidHead.{RidHead}
use Rattle.heap_log.specs.declared.heads.Heads.{Heads}
use Rattle.heap_log.specs.declared.txn_head.TxnHead.{TxnHead}
use Rattle.heap_log.specs.Growing.{changed_rid, is_change_by}
use Rattle.heap_log.specs.Heads.{rid_head, txn_head, AreHeadsAfter}
use Rattle.heap_log.specs.PageHeads.{rid_head_in, places_of, IsNumbered}
use Rattle.heap_log.specs.Places.{HasPlace, HasPlaceFor}
use Rattle.heap_log.specs.Standing.{record_at, is_write_of, is_write_at, last_of, last_at, newest_at, place_of}
use Rattle.heap_log.specs.TxnHeads.{no_txn_head, txn_head_in}
use Rattle.heap_log.proofs.Last.{last_below_none}
use Rattle.heap_log.proofs.Numbers.{last_at-writes, newest_at-writes, number_some}
use Rattle.heap_log.proofs.Paged.{place_of_head}
use Rattle.heap_log.proofs.Records.{write_within}

head_numbered : (log : List LogRec) (rid : Rid) → IsNumbered (rid_head log rid)
head_numbered log rid = record {
  last = number_some log (last_at log rid (length log + 1)) (last_at-writes log rid (length log + 1) (last_at log rid (length log + 1)) refl);
  newest = number_some log (newest_at log rid) (newest_at-writes log rid (newest_at log rid) refl);
}

-- so a changed head can be kept
pub change_numbered : (old new : List LogRec) (change : Option Heads) → AreHeadsAfter old new change → IfSome change (λ heads. IsNumbered heads.at_rid)
change_numbered old new None after = tt
change_numbered old new (Some heads) after =
    let is : rid_head new heads.rid ≡ heads.at_rid =
    after.rids heads.rid ∙ cond-true (same_rid heads.rid heads.rid) heads.at_rid (rid_head old heads.rid) (same_rid-refl heads.rid) in
    subst IsNumbered is (head_numbered new heads.rid)

-- a write is at its RID
write_there : (rid : Rid) (rec : Option LogRec) → place_of rec ≡ Some rid → is_write_at rid rec ≡ true
write_there rid None e = absurd (cc)
write_there rid (Some (Write txn r row)) e = ap (λ p. same_rid p rid) (same_Some r rid e) ∙ same_rid-refl rid
write_there rid (Some (Undo txn n)) e = absurd (cc)
write_there rid (Some (Commit txn)) e = absurd (cc)
write_there rid (Some (Switch verdicts)) e = absurd (cc)

-- a RID that was written has a place
pub written_placed : (log : List LogRec) (pages : List (List RidHead)) (rid : Rid) (n : ℕ) → rid_head_in pages rid ≡ rid_head log rid
    → place_of (record_at log n) ≡ Some rid → HasPlace rid (places_of pages)
written_placed log pages rid n same is =
    let there : is_write_at rid (record_at log n) ≡ true = write_there rid (record_at log n) is in
    let within : (0 < n) × (n < length log + 1) = write_within log n (is_write_at rid) refl there in
    place_of_head pages rid (λ none.
    let last : last_at log rid (length log + 1) ≡ None = ap (λ (head : RidHead). head.last) (sym same ∙ none) in
    false≢true (sym (last_below_none (λ k. is_write_at rid (record_at log k)) (length log + 1) last n within.1) ∙ there))

placed : (log : List LogRec) (pages : List (List RidHead)) (txns : ℕ) (added : LogRec) (rid : Rid) → rid_head_in pages rid ≡ rid_head log rid
    → HasPlaceFor added (places_of pages) txns → changed_rid log added ≡ Some rid → HasPlace rid (places_of pages)
placed log pages txns (Write txn r row) rid same place is = subst (λ (p : Rid). HasPlace p (places_of pages)) (same_Some r rid is) place.0
placed log pages txns (Undo txn n) rid same place is = written_placed log pages rid n same is
placed log pages txns (Commit txn) rid same place is = absurd (cc)
placed log pages txns (Switch verdicts) rid same place is = absurd (cc)

-- so has the RID that a record changes
pub change_placed : (log : List LogRec) (pages : List (List RidHead)) (txns : ℕ) (added : LogRec) (change : Option Heads)
    → ((rid : Rid) → rid_head_in pages rid ≡ rid_head log rid) → HasPlaceFor added (places_of pages) txns
    → IfSome change (λ heads. changed_rid log added ≡ Some heads.rid) → IfSome change (λ heads. HasPlace heads.rid (places_of pages))
change_placed log pages txns added None same place is = tt
change_placed log pages txns added (Some heads) same place is = placed log pages txns added heads.rid (same heads.rid) place is

-- a transaction that wrote has a place
writer_placed : (log : List LogRec) (heads : List TxnHead) (txn n : ℕ) → txn_head_in heads txn ≡ txn_head log txn
    → is_write_of txn (record_at log n) ≡ true → txn < length heads
writer_placed log heads txn n same by =
    let within : (0 < n) × (n < length log + 1) = write_within log n (is_write_of txn) refl by in
    elim (cases_lt txn (length heads)) [
      | inl less ↦ less
      | inr past ↦
          let none : last_of log txn (length log + 1) ≡ None =
          ap (λ (head : TxnHead). head.last) (sym same ∙ get_or_past heads txn no_txn_head past) in
          absurd (false≢true (sym (last_below_none (λ k. is_write_of txn (record_at log k)) (length log + 1) none n within.1) ∙ by))
    ]

by_placed : (log : List LogRec) (heads : List TxnHead) (places : List ℕ) (added : LogRec) (txn : ℕ) → txn_head_in heads txn ≡ txn_head log txn
    → HasPlaceFor added places (length heads) → is_change_by txn log added ≡ true → txn < length heads
by_placed log heads places (Write t rid row) txn same place by = subst (λ (n : ℕ). n < length heads) (eqb-true t txn by) place.1
by_placed log heads places (Undo t n) txn same place by = writer_placed log heads txn n same by
by_placed log heads places (Commit t) txn same place by = absurd (cc)
by_placed log heads places (Switch verdicts) txn same place by = absurd (cc)

-- so has the one whose head a record changes
pub change_by_placed : (log : List LogRec) (heads : List TxnHead) (places : List ℕ) (added : LogRec) (change : Option Heads)
    → ((txn : ℕ) → txn_head_in heads txn ≡ txn_head log txn) → HasPlaceFor added places (length heads)
    → IfSome change (λ c. is_change_by c.txn log added ≡ true) → IfSome change (λ c. c.txn < length heads)
change_by_placed log heads places added None same place by = tt
change_by_placed log heads places added (Some change) same place by = by_placed log heads places added change.txn (same change.txn) place by
