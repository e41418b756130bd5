-- The slots that a transaction wrote, settled write by write from the last to the first.
use Rattle.std.proofs.Common.{◌≡◌, ◌≢◌, inl, inr, ℕ, zero, suc, ◌+◌, ◌-◌, ◌<◌, ◌≤◌, Bool, true, false, List, [], ◌∷◌, length, drop, get_or, Option, Some, None}
use Rattle.std.proofs.Common.{refl, sym, ap, ◌∙◌, arith}
use Rattle.std.proofs.Math.Bool.{and-false}
use Rattle.std.specs.Prelude.{◌||◌}
use Rattle.std.specs.Option.{unwrap_or}
use Rattle.std.specs.List.{slice_get}
use Rattle.std.proofs.lemmas.Bool.{cases_Bool, and_from}
use Rattle.std.proofs.lemmas.Option.{same_Some, slice_get_cases}
use Rattle.keybytes.specs.declared.rid.Rid.{Rid}
use Rattle.heap_log.specs.declared.record.LogRec.{LogRec}
use Rattle.heap_log.specs.Standing.{record_at, is_write_of, is_write_at, last_of, IsWrite}
use Rattle.heap_log.proofs.Last.{IsLast, last_below_some, last_below_none}
use Rattle.heap_log.proofs.Numbers.{last_of-of}
use Rattle.slotted_page.specs.Slot.{Slot, free, held, row, settled}
use Rattle.slotted_page.specs.Page.{PageValue}
use Rattle.heap_table.specs.Holders.{writes, wrote}
use Rattle.heap_table.specs.PageLists.{PagesValue, new_page, page_by, slot_in, with_slot_in, pages_by, settled_if}
use Rattle.heap_table.specs.Ready.{HaveWritten}
use Rattle.heap_log.proofs.Records.{rid_of-write}
use Rattle.std.proofs.Math.Seq.{drop-length}
use Rattle.heap_table.proofs.PageLists.{length_page_by, length_pages_by, get_or_pages_by, pages_by_same, pages_by_inside, slot_in_pages}
use Rattle.heap_table.proofs.Writers.{wrote_from}

-- whether the transaction wrote there behind that place
abbrev pub wrote_behind : List LogRec → ℕ → Option ℕ → Rid → Bool
wrote_behind log txn place rid = wrote (drop (unwrap_or place 0) log) txn rid

-- each slot that the transaction wrote behind the place is settled
pub record HasSettled (log : List LogRec) (txn : ℕ) (old : PagesValue) (place : Option ℕ) (new : PagesValue) : Type 0 where
  pub by : (n : ℕ) → place ≡ Some n → is_write_of txn (record_at log n) ≡ true
  pub pages : (slot : Rid → Slot) (slots : ℕ → ℕ) (count limit : ℕ) → old.pages ≡ pages_by slot slots count limit
      → new.pages ≡ pages_by (λ rid. settled_if (wrote_behind log txn place rid) (slot rid)) slots count limit
  pub limit : new.limit ≡ old.limit
  pub spare : new.spare ≡ old.spare

wrote_step : (log : List LogRec) (k : ℕ) (rec : LogRec) (txn : ℕ) (rid : Rid) → slice_get log k ≡ Some rec
    → wrote (drop k log) txn rid ≡ (writes txn rid rec || wrote (drop (suc k) log) txn rid)
wrote_step [] k rec txn rid e = absurd (cc)
wrote_step (x ∷ log) zero rec txn rid e = let same : x ≡ rec = same_Some x rec e in rw same refl
wrote_step (x ∷ log) (suc k) rec txn rid e = wrote_step log k rec txn rid e

-- records that are no writes of the transaction change nothing
wrote_skip :
    (d m : ℕ) (log : List LogRec) (txn : ℕ) (rid : Rid) → m + d ≤ length log → ((i : ℕ) → m < i → i ≤ m + d → is_write_of txn (record_at log i) ≡ false)
    → wrote (drop m log) txn rid ≡ wrote (drop (m + d) log) txn rid
wrote_skip zero m log txn rid within none = let same : m ≡ m + 0 = omega arith in ap (λ (k : ℕ). wrote (drop k log) txn rid) same
wrote_skip (suc d) m log txn rid within none = elim (slice_get_cases log m).1 [
  | inl there ↦
      let rec = there.0 in
      let not_of : is_write_of txn (Some rec) ≡ false = sym (ap (is_write_of txn) there.2) ∙ none (suc m) (omega arith) (omega arith) in
      let not_here : writes txn rid rec ≡ false = rw not_of refl in
      let next : suc m + d ≡ m + suc d = omega arith in
      wrote_step log m rec txn rid there.2
      ∙ (ap (λ (b : Bool). b || wrote (drop (suc m) log) txn rid) not_here
      ∙ (wrote_skip d (suc m) log txn rid (omega (arith, within)) (λ i low high. none i (omega (arith, low)) (omega (arith, high)))
      ∙ ap (λ (k : ℕ). wrote (drop k log) txn rid) next))
  | inr past ↦ absurd (omega (arith, past.0, within))
]

-- nothing was written behind the last write
none_behind : (log : List LogRec) (txn : ℕ) (rid : Rid) (place : Option ℕ) → last_of log txn (length log + 1) ≡ place → wrote_behind log txn place rid ≡ false
none_behind log txn rid None e =
    wrote_skip (length log) 0 log txn rid (omega arith)
    (λ i low high. last_below_none (λ k. is_write_of txn (record_at log k)) (length log + 1) e i (omega (arith, high)))
    ∙ ap (λ (l : List LogRec). wrote l txn rid) (ap (λ (k : ℕ). drop k log) zero_more ∙ drop-length log) where
      zero_more : 0 + length log ≡ length log
      zero_more = omega arith
none_behind log txn rid (Some n) e =
    let last : IsLast (λ k. is_write_of txn (record_at log k)) (length log + 1) n =
    last_below_some (λ k. is_write_of txn (record_at log k)) (length log + 1) n e in
    let whole : n + (length log - n) ≡ length log = omega (arith, last.below) in
    wrote_skip (length log - n) n log txn rid (omega (arith, whole)) (λ i low high. last.after i low (omega (arith, high, whole)))
    ∙ ap (λ (l : List LogRec). wrote l txn rid) (ap (λ (k : ℕ). drop k log) whole ∙ drop-length log)

-- behind the write before there is one write more
one_behind :
    (log : List LogRec) (txn n : ℕ) (rec : LogRec) (rid : Rid) (place : Option ℕ) → IsWrite log n → record_at log n ≡ Some rec → last_of log txn n ≡ place
    → wrote_behind log txn place rid ≡ (writes txn rid rec || wrote_behind log txn (Some n) rid)
one_behind log txn zero rec rid place within is e = absurd (let low = within.low in omega (arith, low))
one_behind log txn (suc k) rec rid None within is e =
    let high = within.high in
    let sum : 0 + k ≡ k = omega arith in
    wrote_skip k 0 log txn rid (omega (arith, high)) (λ i low top. last_below_none (λ j. is_write_of txn (record_at log j)) (suc k) e i (omega (arith, top)))
    ∙ (ap (λ (j : ℕ). wrote (drop j log) txn rid) sum ∙ wrote_step log k rec txn rid is)
one_behind log txn (suc k) rec rid (Some m) within is e =
    let high = within.high in
    let last : IsLast (λ j. is_write_of txn (record_at log j)) (suc k) m = last_below_some (λ j. is_write_of txn (record_at log j)) (suc k) m e in
    let sum : m + (k - m) ≡ k = omega (arith, last.below) in
    wrote_skip (k - m) m log txn rid (omega (arith, high, sum)) (λ i low top. last.after i low (omega (arith, top, sum)))
    ∙ (ap (λ (j : ℕ). wrote (drop j log) txn rid) sum ∙ wrote_step log k rec txn rid is)

-- pages of one list have one number of pages, and each one number of slots
same_shape :
    (f g : Rid → Slot) (m n : ℕ → ℕ) (c d k l : ℕ) → pages_by f m c k ≡ pages_by g n d l → (c ≡ d) × ((page : ℕ) → page < c → m page ≡ n page)
same_shape f g m n c d k l e =
    let count : c ≡ d = sym (length_pages_by f m c k) ∙ (ap length e ∙ length_pages_by g n d l) in (
      count,
      λ page below.
          let blank : PageValue = new_page 0 in
          let same : page_by f m k page ≡ page_by g n l page =
          sym (get_or_pages_by f m c k page blank below)
          ∙ (ap (λ (ps : List PageValue). get_or ps page blank) e ∙ get_or_pages_by g n d l page blank (omega (arith, below, count))) in
          sym (length_page_by f m k page) ∙ (ap (λ (p : PageValue). length p.slots) same ∙ length_page_by g n l page),
    )

settled_again : (b : Bool) (slot : Slot) → settled (settled_if b slot) ≡ settled slot
settled_again true free = refl
settled_again true (held r) = refl
settled_again true (row bytes r) = refl
settled_again false slot = refl

-- one write more
pub settle_next :
    (log : List LogRec) (txn n : ℕ) (rec : LogRec) (old mid new : PagesValue) (place : Option ℕ) (rid : Rid) (slot : Rid → Slot) (slots : ℕ → ℕ)
    (count limit : ℕ)
    → HasSettled log txn old (Some n) mid → HaveWritten old log txn slot slots count limit → IsWrite log n → record_at log n ≡ Some rec
    → is_write_at rid (Some rec) ≡ true
    → last_of log txn n ≡ place → new.pages ≡ with_slot_in mid.pages mid.limit rid (settled (slot_in mid.pages rid)) → new.limit ≡ mid.limit
    → new.spare ≡ mid.spare
    → HasSettled log txn old place new
settle_next log txn n rec old mid new place rid slot slots count limit h have within is there e pages same_limit same_spare = record {
  by = λ m at. last_of-of log txn n m (e ∙ at);
  pages = λ f m c k old_is.
      let shape = same_shape f slot m slots c count k limit (sym old_is ∙ have.0) in
      let inside = have.1 rid (wrote_from log txn rid n (h.by n refl) (ap (is_write_at rid) is ∙ there)) in
      let page_in : rid.page < c = omega (arith, inside.0, shape.0) in
      let same = shape.1 rid.page page_in in
      let slot_in_page : rid.slot < m rid.page = omega (arith, inside.1, same) in
      let before : Rid → Slot = λ r. settled_if (wrote_behind log txn (Some n) r) (f r) in
      let after : Rid → Slot = λ r. settled_if (wrote_behind log txn place r) (f r) in
      let mid_is : mid.pages ≡ pages_by before m c k = h.pages f m c k old_is in
      let own : is_write_of txn (Some rec) ≡ true = ap (is_write_of txn) (sym is) ∙ h.by n refl in
      let here : writes txn rid rec ≡ true = and_from (is_write_of txn (Some rec)) (is_write_at rid (Some rec)) own there in
      let behind : wrote_behind log txn place rid ≡ true = one_behind log txn n rec rid place within is e ∙ rw here refl in
      let slot_is : settled (slot_in mid.pages rid) ≡ after rid =
      ap (λ (ps : List PageValue). settled (slot_in ps rid)) mid_is
      ∙ (ap settled (slot_in_pages before m c k rid page_in slot_in_page)
      ∙ (settled_again (wrote_behind log txn (Some n) rid) (f rid) ∙ sym (ap (λ (b : Bool). settled_if b (f rid)) behind))) in
      pages ∙ (ap (with_slot_in mid.pages mid.limit rid) slot_is
      ∙ (ap (λ (ps : List PageValue). with_slot_in ps mid.limit rid (after rid)) mid_is
      ∙ pages_by_inside before after m c k rid (λ other differs.
      let elsewhere : writes txn other rec ≡ false = not_there other differs in
      ap (λ (b : Bool). settled_if b (f other)) (one_behind log txn n rec other place within is e ∙ rw elsewhere refl)) page_in slot_in_page mid.limit));
  limit = same_limit ∙ h.limit;
  spare = same_spare ∙ h.spare;
} where
  not_there : (other : Rid) → other ≢ rid → writes txn other rec ≡ false
  not_there other differs = elim (cases_Bool (is_write_at other (Some rec))) [
    | inl also ↦ absurd (differs (sym (rid_of-write other (Some rec) also) ∙ rid_of-write rid (Some rec) there))
    | inr none ↦ rw none (and-false (is_write_of txn (Some rec)))
  ]

-- before the first turn
pub settle_first :
    (log : List LogRec) (txn : ℕ) (old : PagesValue) (place : Option ℕ) → last_of log txn (length log + 1) ≡ place → HasSettled log txn old place old
settle_first log txn old place e = record {
  by = λ n at. last_of-of log txn (length log + 1) n (e ∙ at);
  pages = λ f m c k is. is ∙ pages_by_same f (λ rid. settled_if (wrote_behind log txn place rid) (f rid)) m m c k
      (λ rid. sym (ap (λ (b : Bool). settled_if b (f rid)) (none_behind log txn rid place e))) (λ p. refl);
  limit = refl;
  spare = refl;
}

-- the pages between two turns have a slot for each write
pub settling_inside :
    (log : List LogRec) (txn n : ℕ) (old mid : PagesValue) (rid : Rid) (slot : Rid → Slot) (slots : ℕ → ℕ) (count limit : ℕ)
    → HasSettled log txn old (Some n) mid → HaveWritten old log txn slot slots count limit → is_write_at rid (record_at log n) ≡ true
    → (rid.page < length mid.pages) × (rid.slot < length (get_or mid.pages rid.page (new_page 0)).slots)
settling_inside log txn n old mid rid slot slots count limit h have there =
    let inside = have.1 rid (wrote_from log txn rid n (h.by n refl) there) in
    let now : Rid → Slot = λ r. settled_if (wrote_behind log txn (Some n) r) (slot r) in
    let mid_is = h.pages slot slots count limit have.0 in
    let len : length mid.pages ≡ count = ap length mid_is ∙ length_pages_by now slots count limit in
    let page : get_or mid.pages rid.page (new_page 0) ≡ page_by now slots limit rid.page =
    ap (λ (ps : List PageValue). get_or ps rid.page (new_page 0)) mid_is ∙ get_or_pages_by now slots count limit rid.page (new_page 0) inside.0 in
    let slot_count = ap (λ (p : PageValue). length p.slots) page ∙ length_page_by now slots limit rid.page in
    (omega (arith, inside.0, len), omega (arith, inside.1, slot_count))

pub earlier_place : (log : List LogRec) (txn n : ℕ) (place : Option ℕ) → IsWrite log n → last_of log txn n ≡ place → unwrap_or place 0 < n
earlier_place log txn n None within e = let low = within.low in omega (arith, low)
earlier_place log txn n (Some m) within e = (last_below_some (λ k. is_write_of txn (record_at log k)) n m e).below
