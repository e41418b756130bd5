-- What a record more adds to the entries of a build's indexes: two at most to each.
use Rattle.std.proofs.Common.{◌≡◌, ◌<◌, ◌≤◌, ◌+◌, ◌-◌, ◌*◌, ℕ, zero, suc, Bool, true, false, cond, List, [], ◌∷◌, ◌++◌, length, drop, Option, Some, None, refl, ap, ◌∙◌, inl, inr, arith, length-append}
use Rattle.std.specs.Prelude.{nat_eq, nat_le}
use Rattle.std.specs.Cmp.Lexicographic.{pointwise}
use Rattle.std.specs.List.{slice_get}
use Rattle.std.proofs.lemmas.Bool.{cases_Bool, leb-true, leb-false}
use Rattle.std.proofs.lemmas.List.{drop_all, length-drop}
use Rattle.keybytes.specs.Keys.{KeySpecValue}
use Rattle.keybytes.specs.declared.pair.Pair.{Pair}
use Rattle.keybytes.specs.declared.rid.Rid.{Rid}
use Rattle.heap_log.specs.Growing.{changed_rid, first_records}
use Rattle.heap_log.specs.declared.record.LogRec.{LogRec}
use Rattle.heap_table.specs.TablePairs.{pair_at}
use Rattle.visibility.specs.SideEntries.{SideEntry, delete, insert, changes}
use Rattle.build_events.specs.CoreState.{BuildState, scanning_of}
use Rattle.build_events.specs.Scanning.{Scanning, is_visible}
use Rattle.build_events.specs.SideEntries.{entries_for, entries_from, entries_of, side_entries}
use Rattle.build_events.specs.Workers.{all_entries, fed_to, unfed, unfed_before}
use Rattle.build_events.proofs.EntrySteps.{more_entries}

-- A record changes the row at one RID, so it makes a delete and an insert at the most.

of_two : (b : Bool) (xs ys : List SideEntry) → length xs ≤ 2 → length ys ≤ 2 → length (cond b xs ys) ≤ 2
of_two true xs ys p q = p
of_two false xs ys p q = q

changes_few : (old new : Option Pair) → length (changes old new) ≤ 2
changes_few None None = omega arith
changes_few None (Some new) = omega arith
changes_few (Some old) None = omega arith
changes_few (Some old) (Some new) = of_two (pointwise nat_eq old.key new.key) [] (delete old ∷ insert new ∷ []) (omega arith) (omega arith)

entries_few : (b : Scanning) (log : List LogRec) (rec : LogRec) (rid : Option Rid) → length (entries_for b log rec rid) ≤ 2
entries_few b log rec None = omega arith
entries_few b log rec (Some rid) =
    of_two (is_visible b (length log) rid) (changes (pair_at b.spec log rid) (pair_at b.spec (log ++ rec ∷ []) rid)) []
    (changes_few (pair_at b.spec log rid) (pair_at b.spec (log ++ rec ∷ []) rid)) (omega arith)

-- how much longer a side-file is with one record more
record Adds (b : Scanning) (log : List LogRec) (rec : LogRec) : Type 0 where
  pub count : ℕ
  pub is : length (side_entries b (log ++ rec ∷ [])) ≡ length (side_entries b log) + count
  pub few : count ≤ 2
  pub none : changed_rid log rec ≡ None → count ≡ 0

none_for : (b : Scanning) (log : List LogRec) (rec : LogRec) (rid : Option Rid) → rid ≡ None → length (entries_for b log rec rid) ≡ 0
none_for b log rec rid none = ap (λ (o : Option Rid). length (entries_for b log rec o)) none

adds : (b : Scanning) (log : List LogRec) (rec : LogRec) → Adds b log rec
adds b log rec = elim (cases_Bool (nat_le b.opened (length log))) [
  | inl is_open ↦
      let opened : b.opened ≤ length log = leb-true b.opened (length log) is_open in
      record {
        count = length (entries_of b log rec);
        is = ap (λ (es : List SideEntry). length es) (more_entries b log rec opened) ∙ length-append (side_entries b log) (entries_of b log rec);
        few = entries_few b log rec (changed_rid log rec);
        none = none_for b log rec (changed_rid log rec);
      }
  | inr closed ↦
      let behind : length log < b.opened = leb-false b.opened (length log) closed in
      let longer : length (log ++ rec ∷ []) ≤ b.opened = omega (arith, length-append log (rec ∷ []), behind) in
      let none_then : side_entries b (log ++ rec ∷ []) ≡ [] =
      ap (entries_from b (first_records b.opened (log ++ rec ∷ []))) (drop_all b.opened (log ++ rec ∷ []) longer) in
      let none_now : side_entries b log ≡ [] = ap (entries_from b (first_records b.opened log)) (drop_all b.opened log (omega (arith, behind))) in
      record {
        count = 0;
        is = omega (arith, ap (λ (es : List SideEntry). length es) none_then, ap (λ (es : List SideEntry). length es) none_now);
        few = omega arith;
        none = λ _. refl;
      }
]

-- the entries of an index that weren't fed: no more come to them than to the side-file
record AddsUnfed (b : BuildState) (log : List LogRec) (rec : LogRec) (index : ℕ) (o : Option KeySpecValue) : Type 0 where
  pub count : ℕ
  pub is : unfed b (log ++ rec ∷ []) index o ≡ unfed b log index o + count
  pub few : count ≤ 2
  pub none : changed_rid log rec ≡ None → count ≡ 0

longer_by : (old new count fed : ℕ) → new ≡ old + count → (more : ℕ) × (new - fed ≡ old - fed + more) × (more ≤ count)
longer_by old new count fed is = ((new - fed) - (old - fed), omega (arith, is), omega (arith, is))

adds_unfed : (b : BuildState) (log : List LogRec) (rec : LogRec) (index : ℕ) (o : Option KeySpecValue) → AddsUnfed b log rec index o
adds_unfed b log rec index None = record { count = 0; is = refl; few = omega arith; none = λ _. refl }
adds_unfed b log rec index (Some spec) =
    let more : Adds (scanning_of b spec) log rec = adds (scanning_of b spec) log rec in
    let behind = longer_by (all_entries b log spec) (all_entries b (log ++ rec ∷ []) spec) more.count (fed_to b index) more.is in
    record {
      count = behind.0;
      is = behind.1;
      few = omega (arith, more.few, behind.2);
      none = λ no_rid. omega (arith, more.none no_rid, behind.2);
    }

-- those of the first so many indexes
pub record AddsBefore (n : ℕ) (b : BuildState) (log : List LogRec) (rec : LogRec) : Type 0 where
  pub count : ℕ
  pub is : unfed_before n b (log ++ rec ∷ []) ≡ unfed_before n b log + count
  pub few : count ≤ 2 * n
  pub none : changed_rid log rec ≡ None → count ≡ 0

pub adds_before : (n : ℕ) (b : BuildState) (log : List LogRec) (rec : LogRec) → AddsBefore n b log rec
adds_before zero b log rec = record { count = 0; is = refl; few = omega arith; none = λ _. refl }
adds_before (suc n) b log rec =
    let before = adds_before n b log rec in
    let one = adds_unfed b log rec n (slice_get b.specs n) in
    record {
      count = before.count + one.count;
      is = omega (arith, before.is, one.is);
      few = omega (arith, before.few, one.few);
      none = λ no_rid. omega (arith, before.none no_rid, one.none no_rid);
    }

-- No side-file has more than two entries for each record of the log.

from_few : (b : Scanning) (log more : List LogRec) → length (entries_from b log more) ≤ 2 * length more
from_few b log [] = omega arith
from_few b log (rec ∷ more) =
    let here = entries_few b log rec (changed_rid log rec) in
    let rest = from_few b (log ++ rec ∷ []) more in
    omega (arith, length-append (entries_of b log rec) (entries_from b (log ++ rec ∷ []) more), here, rest)

unfed_few : (b : BuildState) (log : List LogRec) (index : ℕ) (o : Option KeySpecValue) → unfed b log index o ≤ 2 * length log
unfed_few b log index None = omega arith
unfed_few b log index (Some spec) =
    let opened : ℕ = (scanning_of b spec).opened in
    let all = from_few (scanning_of b spec) (first_records opened log) (drop opened log) in
    omega (arith, all, length-drop opened log)

pub before_few : (n : ℕ) (b : BuildState) (log : List LogRec) → unfed_before n b log ≤ n * (2 * length log)
before_few zero b log = omega arith
before_few (suc n) b log =
    let earlier = before_few n b log in
    let here = unfed_few b log n (slice_get b.specs n) in
    let more : suc n * (2 * length log) ≡ n * (2 * length log) + 2 * length log = omega arith in
    omega (arith, earlier, here, more)
