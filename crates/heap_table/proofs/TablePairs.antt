-- The set of the pairs of a table: its members, and what becomes of it where one row changes.
use Rattle.std.proofs.Common.{◌≡◌, ℕ, zero, suc, ◌+◌, ◌<◌, Bool, true, false, List, [], ◌∷◌, map, Option, Some, None, refl, sym, ap, ◌∙◌, inl, inr, arith}
use Rattle.std.proofs.Common.{add-zero, zero-add}
use Rattle.std.specs.Prelude.{◌||◌, ◌&&◌, ◌==◌, filter_map}
use Rattle.std.specs.FinMap.{contains_key, keys}
use Rattle.std.specs.List.{list_any, slice_get, cons_option, range_with_len}
use Rattle.std.specs.Option.{option_map}
use Rattle.std.proofs.lemmas.Option.{same_Some}
use Rattle.std.proofs.lemmas.Bool.{cases_Bool, and_left, eqb-true, false≢true, or_left, or_right}
use Rattle.keybytes.specs.Keys.{KeySpecValue, key_there}
use Rattle.keybytes.specs.Pairs.{pair_with, with_pair, without_pair}
use Rattle.keybytes.specs.Rids.{same_rid}
use Rattle.keybytes.specs.declared.cell.Cell.{Cell}
use Rattle.keybytes.specs.declared.pair.Pair.{Pair}
use Rattle.keybytes.specs.declared.rid.Rid.{Rid}
use Rattle.keybytes.proofs.PairSets.{is_in, is_pair, IsOwn, tied_pairs, contains-set_of, gathered, all_gathered, pair_gives_way, same_members}
use Rattle.keybytes.proofs.SameRids.{same_rid-refl}
use Rattle.heap_log.specs.declared.record.LogRec.{LogRec}
use Rattle.heap_log.specs.declared.record.LogRec.TheVariants.{Write, Undo, Commit, Switch}
use Rattle.heap_log.specs.Standing.{live_at, place_of, record_at, row_at, is_write_at, newest_at}
use Rattle.heap_table.specs.Pages.{rid_at, slots_written, SetsRow}
use Rattle.heap_table.specs.TablePairs.{pair_at, written_rids, index_pairs, pairs_at_rest, rids_on, pairs_on}
use Rattle.heap_table.proofs.LogRows.{rows_are_inside, newest_there}

own_key : (rid : Rid) (key : Option (List ℕ)) → IsOwn rid (option_map (λ k. record { key = k; rid = rid }) key)
own_key rid None p e = absurd (cc)
own_key rid (Some key) p e = sym (ap (λ (x : Pair). x.rid) (same_Some (record { key = key; rid = rid }) p e))

-- the pair of a row at a RID is that RID's own
pub own_pair : (spec : KeySpecValue) (rid : Rid) (cells : Option (List Cell)) → IsOwn rid (pair_with spec rid cells)
own_pair spec rid cells = own_key rid (key_there spec cells)

-- where a pair counts, it is there
pub pair_there : (o : Option Pair) (q : Pair) → is_pair o q ≡ true → o ≡ Some q
pair_there None q e = absurd (false≢true e)
pair_there (Some p) q e = ap (λ x. Some x) (sym (tied_pairs q p e))

row_of_pair : (spec : KeySpecValue) (rid : Rid) (cells : Option (List Cell)) (p : Pair) → pair_with spec rid cells ≡ Some p
    → (row : List Cell) × (cells ≡ Some row)
row_of_pair spec rid None p e = absurd (cc)
row_of_pair spec rid (Some row) p e = (row, refl)

-- where a pair stands, a row does
pub row_there : (spec : KeySpecValue) (log : List LogRec) (q : Pair) → is_pair (pair_at spec log q.rid) q ≡ true
    → (row : List Cell) × (live_at log q.rid ≡ Some row)
row_there spec log q e = row_of_pair spec q.rid (live_at log q.rid) q (pair_there (pair_at spec log q.rid) q e)

-- what is in the rest is in the whole
in_rest : {X : Type 0} (f : X → Bool) (o : Option X) (xs : List X) → list_any f xs ≡ true → list_any f (cons_option o xs) ≡ true
in_rest f None xs e = e
in_rest f (Some x) xs e = or_right (f x) (list_any f xs) e

written : (log : List LogRec) (rid : Rid) (k : ℕ) → is_write_at rid (slice_get log k) ≡ true → list_any (λ r. same_rid r rid) (written_rids log) ≡ true
written [] rid k e = absurd (false≢true e)
written (Write t r row ∷ log) rid zero e = or_left (same_rid r rid) (list_any (λ r. same_rid r rid) (written_rids log)) e
written (Undo t n ∷ log) rid zero e = absurd (false≢true e)
written (Commit t ∷ log) rid zero e = absurd (false≢true e)
written (Switch v ∷ log) rid zero e = absurd (false≢true e)
written (rec ∷ log) rid (suc k) e = in_rest (λ r. same_rid r rid) (place_of (Some rec)) (written_rids log) (written log rid k e)

written_at : (log : List LogRec) (rid : Rid) (n : ℕ) → is_write_at rid (record_at log n) ≡ true → list_any (λ r. same_rid r rid) (written_rids log) ≡ true
written_at log rid zero e = absurd (false≢true e)
written_at log rid (suc k) e = written log rid k e

stood : (log : List LogRec) (rid : Rid) (row : List Cell) (o : Option ℕ) → newest_at log rid ≡ o → row_at log o ≡ Some row
    → list_any (λ r. same_rid r rid) (written_rids log) ≡ true
stood log rid row None is e = absurd (cc)
stood log rid row (Some n) is e = written_at log rid n (newest_there log rid n is)

-- where a row stands, the RID is written
pub row_written : (log : List LogRec) (rid : Rid) (row : List Cell) → live_at log rid ≡ Some row → list_any (λ r. same_rid r rid) (written_rids log) ≡ true
row_written log rid row live = stood log rid row (newest_at log rid) refl live

-- the pairs at RIDs, among which each RID with a row is, are the pairs of the rows
pub all_listed :
    (spec : KeySpecValue) (log : List LogRec) (rids : List Rid)
    → ((rid : Rid) (row : List Cell) → live_at log rid ≡ Some row → list_any (λ r. same_rid r rid) rids ≡ true)
    → (q : Pair) → is_in q (filter_map (pair_at spec log) rids) ≡ is_pair (pair_at spec log q.rid) q
all_listed spec log rids each q =
    all_gathered (pair_at spec log) (λ rid. own_pair spec rid (live_at log rid)) q rids (λ e. let row = row_there spec log q e in each q.rid row.0 row.1)

-- the set has just the pair at each RID
pub contains-index_pairs : (spec : KeySpecValue) (log : List LogRec) (q : Pair) → contains_key (index_pairs spec log) q ≡ is_pair (pair_at spec log q.rid) q
contains-index_pairs spec log q =
    contains-set_of (filter_map (pair_at spec log) (written_rids log)) q ∙ all_listed spec log (written_rids log) (row_written log) q

pair_kept : (spec : KeySpecValue) (old new : List LogRec) (q : Pair) → live_at new q.rid ≡ live_at old q.rid
    → is_pair (pair_at spec new q.rid) q ≡ is_pair (pair_at spec old q.rid) q
pair_kept spec old new q live = ap (λ (cells : Option (List Cell)). is_pair (pair_with spec q.rid cells) q) live

-- where the same rows stand, the pairs are the same
pub same_rows : (spec : KeySpecValue) (old new : List LogRec) → ((rid : Rid) → live_at new rid ≡ live_at old rid) → index_pairs spec new ≡ index_pairs spec old
same_rows spec old new live =
    same_members (index_pairs spec new) (index_pairs spec old) (λ q.
    contains-index_pairs spec new q ∙ pair_kept spec old new q (live q.rid) ∙ sym (contains-index_pairs spec old q))

pub pairs_kept : (spec : KeySpecValue) (old new : List LogRec) → ((rid : Rid) → live_at new rid ≡ live_at old rid)
    → pairs_at_rest spec new ≡ pairs_at_rest spec old
pairs_kept spec old new live = ap keys (same_rows spec old new live)

-- one row that gives way to another changes the pairs by exactly a delete of its old pair, if any, and an insert of the new one, if any
pub row_gives_way :
    (spec : KeySpecValue) (old new : List LogRec) (rid : Rid) (cells : Option (List Cell)) → SetsRow old rid cells new
    → index_pairs spec new ≡ with_pair (pair_with spec rid cells) (without_pair (pair_at spec old rid) (index_pairs spec old))
row_gives_way spec old new rid cells sets =
    let here : (log : List LogRec) (q : Pair) → q.rid ≡ rid → contains_key (index_pairs spec log) q ≡ is_pair (pair_at spec log rid) q =
    λ log q at. contains-index_pairs spec log q ∙ ap (λ (r : Rid). is_pair (pair_at spec log r) q) at in
    pair_gives_way rid (pair_at spec old rid) (pair_with spec rid cells) (index_pairs spec old) (index_pairs spec new)
    (own_pair spec rid (live_at old rid)) (own_pair spec rid cells) (here old)
    (λ q at. here new q at ∙ ap (λ (row : Option (List Cell)). is_pair (pair_with spec rid row) q) sets.here)
    (λ q other. contains-index_pairs spec new q ∙ pair_kept spec old new q (sets.elsewhere q.rid other) ∙ sym (contains-index_pairs spec old q))

-- a slot below the last one is listed
pub in_range : (test : ℕ → Bool) (first count k : ℕ) → k < count → test (first + k) ≡ true → list_any test (range_with_len first count) ≡ true
in_range test first zero k less e = absurd (omega arith)
in_range test first (suc count) zero less e = or_left (test first) (list_any test (range_with_len (first + 1) count)) (ap test (sym (add-zero first)) ∙ e)
in_range test first (suc count) (suc k) less e =
    or_right (test first) (list_any test (range_with_len (first + 1) count))
    (in_range test (first + 1) count k (omega arith) (let same : first + 1 + k ≡ first + suc k = omega arith in ap test same ∙ e))

any_map : {X Y : Type 0} (test : Y → Bool) (f : X → Y) (xs : List X) → list_any test (map f xs) ≡ list_any (λ x. test (f x)) xs
any_map test f [] = refl
any_map test f (x ∷ xs) = ap (λ b. test (f x) || b) (any_map test f xs)

pub listed_on : (log : List LogRec) (rid : Rid) → rid.slot < slots_written log rid.page → list_any (λ r. same_rid r rid) (rids_on log rid.page) ≡ true
listed_on log rid less =
    any_map (λ r. same_rid r rid) (rid_at rid.page) (range_with_len 0 (slots_written log rid.page))
    ∙ in_range (λ slot. same_rid (rid_at rid.page slot) rid) 0 (slots_written log rid.page) rid.slot less
    (ap (λ slot. same_rid (rid_at rid.page slot) rid) (zero-add rid.slot) ∙ same_rid-refl rid)

none_elsewhere : (page : ℕ) (rid : Rid) (slots : List ℕ) → (page == rid.page) ≡ false → list_any (λ r. same_rid r rid) (map (rid_at page) slots) ≡ false
none_elsewhere page rid [] other = refl
none_elsewhere page rid (slot ∷ slots) other =
    ap (λ x. x || list_any (λ r. same_rid r rid) (map (rid_at page) slots)) (and_left (page == rid.page) (slot == rid.slot) other)
    ∙ none_elsewhere page rid slots other

-- a page has the pairs of its RIDs
pub on_page : (spec : KeySpecValue) (log : List LogRec) (page : ℕ) (q : Pair)
    → is_in q (pairs_on spec log page) ≡ ((page == q.rid.page) && is_pair (pair_at spec log q.rid) q)
on_page spec log page q =
    let own : (rid : Rid) → IsOwn rid (pair_at spec log rid) = λ rid. own_pair spec rid (live_at log rid) in
    elim (cases_Bool (page == q.rid.page)) [
      | inl here ↦
          let same : page ≡ q.rid.page = eqb-true page q.rid.page here in
          ap (λ p. is_in q (pairs_on spec log p)) same
          ∙ all_gathered (pair_at spec log) own q (rids_on log q.rid.page)
          (λ e. let row = row_there spec log q e in listed_on log q.rid ((rows_are_inside log).slot q.rid row.0 row.1))
          ∙ sym (ap (λ x. x && is_pair (pair_at spec log q.rid) q) here)
      | inr other ↦
          gathered (pair_at spec log) own q (rids_on log page)
          ∙ ap (λ x. x && is_pair (pair_at spec log q.rid) q) (none_elsewhere page q.rid (range_with_len 0 (slots_written log page)) other)
          ∙ sym (ap (λ x. x && is_pair (pair_at spec log q.rid) q) other)
    ]
