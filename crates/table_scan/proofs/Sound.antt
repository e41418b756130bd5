-- A build is sound, for each of its indexes.
use Rattle.std.proofs.Common.{◌≡◌, ℕ, ◌+◌, ◌≤◌, true, List, [], ◌∷◌, ◌++◌, length, length-append, drop, take-append-drop, Option, Some, None, refl, sym, ap}
use Rattle.std.proofs.Common.{subst, inl, inr, arith}
use Rattle.std.specs.Prelude.{nat_le, nat_eq, IfSome}
use Rattle.std.specs.Cmp.Lexicographic.{pointwise}
use Rattle.std.specs.List.{All, AllByRecursion}
use Rattle.std.proofs.lemmas.Bool.{cases_Bool, cond-true, cond-false, or_cases, or_left, or_right, le-leb, leb-true, false≢true}
use Rattle.std.proofs.lemmas.List.Elements.{All-from_recursion}
use Rattle.keybytes.specs.declared.kind.Kind.{Kind}
use Rattle.keybytes.specs.declared.pair.Pair.{Pair}
use Rattle.keybytes.specs.declared.rid.Rid.{Rid}
use Rattle.keybytes.proofs.PairSets.{IsOwn}
use Rattle.heap_log.specs.Growing.{changed_rid, first_records}
use Rattle.heap_log.specs.Standing.{live_at}
use Rattle.heap_log.specs.declared.record.LogRec.{LogRec}
use Rattle.heap_table.specs.TablePairs.{pair_at}
use Rattle.heap_table.proofs.PairsAtRest.{all_append}
use Rattle.heap_table.proofs.TablePairs.{own_pair}
use Rattle.table_scan.specs.TableBuilds.{IsBuildOf, BuildFollows}
use Rattle.build_events.specs.CoreState.{BuildState, scanning_of}
use Rattle.build_events.specs.Soundness.{BuildIsSound, EntriesHaveEffect, VisiblePairsAreCaughtUp}
use Rattle.visibility.specs.Applied.{entry_rid}
use Rattle.build_events.specs.Scanning.{Scanning, is_by, is_visible, scanned_at}
use Rattle.visibility.specs.SideEntries.{SideEntry, delete, insert, changes}
use Rattle.build_events.specs.SideEntries.{entries_for, entries_of, entries_from, side_entries}
use Rattle.build_events.proofs.SideFollows.{leaves_visible, entries_have_effect}
use Rattle.page_workers.proofs.Places.{all_from}

by_later : (count n : ℕ) (o : Option ℕ) → count ≤ n → is_by count o ≡ true → is_by n o ≡ true
by_later count n None more e = absurd (false≢true e)
by_later count n (Some k) more e = let less : k ≤ count = leb-true k count e in le-leb k n (omega arith)

-- what is seen stays so
visible_later : (b : Scanning) (count n : ℕ) (rid : Rid) → count ≤ n → is_visible b count rid ≡ true → is_visible b n rid ≡ true
visible_later b count n rid more e =
    let at : Option ℕ = scanned_at b.scans rid.page in
    elim (or_cases (nat_le b.pages rid.page) (is_by count at) e) [
      | inl newer ↦ or_left (nat_le b.pages rid.page) (is_by n at) newer
      | inr by ↦ or_right (nat_le b.pages rid.page) (is_by n at) (by_later count n at more by)
    ]

-- the entries of one RID's change name it
name_it : (P : Rid → Type 0) (rid : Rid) (old new : Option Pair) → IsOwn rid old → IsOwn rid new → P rid → AllByRecursion (λ e. P (entry_rid e)) (changes old new)
name_it P rid None None of_old of_new here = tt
name_it P rid None (Some new) of_old of_new here = (subst P (sym (of_new new refl)) here, tt)
name_it P rid (Some old) None of_old of_new here = (subst P (sym (of_old old refl)) here, tt)
name_it P rid (Some old) (Some new) of_old of_new here =
    let Named : List SideEntry → Type 0 = λ es. AllByRecursion (λ e. P (entry_rid e)) es in
    elim (cases_Bool (pointwise nat_eq old.key new.key)) [
      | inl same ↦ subst Named (sym (cond-true (pointwise nat_eq old.key new.key) [] (delete old ∷ insert new ∷ []) same)) tt
      | inr differ ↦
          subst Named (sym (cond-false (pointwise nat_eq old.key new.key) [] (delete old ∷ insert new ∷ []) differ))
          (subst P (sym (of_old old refl)) here, (subst P (sym (of_new new refl)) here, tt))
    ]

-- a record's entries name a RID that is visible by then, and from then on
for_visible : (b : Scanning) (first : List LogRec) (rec : LogRec) (o : Option Rid) (n : ℕ) → length first ≤ n → AllByRecursion (λ e. is_visible b n (entry_rid e) ≡ true) (entries_for b first rec o)
for_visible b first rec None n more = tt
for_visible b first rec (Some rid) n more =
    let next : List LogRec = first ++ rec ∷ [] in
    let here : List SideEntry = changes (pair_at b.spec first rid) (pair_at b.spec next rid) in
    let Named : List SideEntry → Type 0 = λ es. AllByRecursion (λ e. is_visible b n (entry_rid e) ≡ true) es in
    elim (cases_Bool (is_visible b (length first) rid)) [
      | inl seen ↦
          subst Named (sym (cond-true (is_visible b (length first) rid) here [] seen))
          (name_it (λ r. is_visible b n r ≡ true) rid (pair_at b.spec first rid) (pair_at b.spec next rid) (own_pair b.spec rid (live_at first rid)) (own_pair b.spec rid (live_at next rid))
          (visible_later b (length first) n rid more seen))
      | inr hidden ↦ subst Named (sym (cond-false (is_visible b (length first) rid) here [] hidden)) tt
    ]

from_visible : (b : Scanning) (first rest : List LogRec) (n : ℕ) → length first + length rest ≤ n → AllByRecursion (λ e. is_visible b n (entry_rid e) ≡ true) (entries_from b first rest)
from_visible b first [] n more = tt
from_visible b first (rec ∷ rest) n more =
    let longer = length-append first (rec ∷ []) in
    all_append (λ e. is_visible b n (entry_rid e) ≡ true) (entries_of b first rec) (entries_from b (first ++ rec ∷ []) rest)
    (for_visible b first rec (changed_rid first rec) n (omega arith)) (from_visible b (first ++ rec ∷ []) rest n (omega (arith, longer)))

-- each entry names a RID that is visible
pub entries_visible : (b : Scanning) (log : List LogRec) → All (λ entry. is_visible b (length log) (entry_rid entry) ≡ true) (side_entries b log)
entries_visible b log =
    let whole = length-append (first_records b.opened log) (drop b.opened log) in
    let same = ap length (take-append-drop b.opened log) in
    All-from_recursion (λ e. is_visible b (length log) (entry_rid e) ≡ true) (side_entries b log)
    (from_visible b (first_records b.opened log) (drop b.opened log) (length log) (omega (arith, whole, same)))

build_sound : (kinds : List Kind) (log : List LogRec) (b : BuildState) → IsBuildOf kinds log b → BuildIsSound b log
build_sound kinds log b is = record {
  caught_up = all_from (λ spec. VisiblePairsAreCaughtUp (scanning_of b spec) log) b.specs (λ k spec at. leaves_visible (scanning_of b spec) log (is.scanned spec));
  effect = all_from (λ spec. EntriesHaveEffect (scanning_of b spec) log) b.specs (λ k spec at.
      record { visible = entries_visible (scanning_of b spec) log; effect = entries_have_effect (scanning_of b spec) log (is.scanned spec) });
}

-- so is the one that runs, if any
pub runs_sound : (kinds : List Kind) (log : List LogRec) (build : Option BuildState) → BuildFollows kinds log build → IfSome build (λ b. BuildIsSound b log)
runs_sound kinds log None follows = tt
runs_sound kinds log (Some b) follows = build_sound kinds log b follows
