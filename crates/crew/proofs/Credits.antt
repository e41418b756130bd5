-- What a step of the table does to the entries that wait for a build, and to the credit of those who write.
use Rattle.std.proofs.Common.{max, min, ◌≡◌, ◌<◌, ◌≤◌, ◌+◌, ◌*◌, ℕ, ◌⊎◌, ◌^◌, List, [], ◌∷◌, ◌++◌, length, length-append, Option, Some, None, refl, sym, ap, ap₂, subst, inl, inr, arith}
use Rattle.std.proofs.lemmas.Bool.{cases_lt}
use Rattle.std.proofs.lemmas.Nat.{mul-le}
use Rattle.keybytes.specs.declared.cell.Cell.{Cell}
use Rattle.keybytes.specs.declared.rid.Rid.{Rid}
use Rattle.heap_log.specs.Growing.{changed_rid}
use Rattle.heap_log.specs.Standing.{newest_standing}
use Rattle.heap_log.specs.declared.record.LogRec.{LogRec}
use Rattle.heap_log.specs.declared.record.LogRec.TheVariants.{Commit, Undo, Write}
use Rattle.heap_table.specs.Calls.{Commits, Deletes, Inserts, Undoes, Updates}
use Rattle.heap_table.specs.HeapState.{HeapState, after_step}
use Rattle.heap_table.specs.declared.undone.Undone.{Undone}
use Rattle.build_events.proofs.EntriesAdded.{adds_before, before_few}
use Rattle.build_events.specs.BuildSteps.{OnBuild}
use Rattle.build_events.specs.CoreState.{BuildState, LiveState}
use Rattle.build_events.specs.Steps.{OnHeap, OnRows}
use Rattle.build_events.specs.Workers.{all_unfed}
use Rattle.live_lemmas.specs.Settling.{entries_waiting, waiting_in}
use Rattle.crew.specs.Credits.{CreditIsKept, IsBounded, KeepsCredit, MayWrite, TakesMore, WriteHasCredit, caught_up_by, indexes_of_build}
use Rattle.crew.specs.declared.locked.credit.Credit.{Credit}
use Rattle.crew.specs.declared.online_build.report.CaughtUp.{CaughtUp}

-- Beside a build, and where none runs.

-- as much waited first as the log of then, and so that of now, has entries for
longer_log : (indexes records more first : ℕ) → records ≤ more → first ≤ indexes * (2 * records) → first ≤ indexes * (2 * more)
longer_log indexes records more first longer few =
    let all = mul-le indexes (2 * records) indexes (2 * more) (omega arith) (omega (arith, longer)) in
    omega (arith, all, few)

-- a write that had credit leaves what every credit keeps
pub write_keeps :
    (build : Option BuildState) (log : List LogRec) (rec : LogRec) (credit : Credit)
    → MayWrite (entries_waiting build log) (indexes_of_build build) (length log) credit
    → KeepsCredit (entries_waiting build (log ++ rec ∷ [])) (indexes_of_build build) (length (log ++ rec ∷ [])) credit
write_keeps None log rec credit it = record {
  appended = it.kept.appended;
  counted = it.kept.counted;
  paced = inl (omega arith);
  applied = it.kept.applied;
  small = it.kept.small;
  first = longer_log 0 (length log) (length (log ++ rec ∷ [])) credit.first (omega (arith, length-append log (rec ∷ []))) it.kept.first;
  turns = it.kept.turns;
  bounded = it.kept.bounded;
}
write_keeps (Some b) log rec credit it =
    let more = adds_before (length b.specs) b log rec in
    record {
      appended = it.kept.appended + more.count;
      counted = omega (arith, it.kept.counted, more.is);
      paced = elim it.may [
        | inl few ↦ inl (omega (arith, few, more.is, more.few))
        | inr credit_is ↦ inr (omega (arith, credit_is, more.few))
      ];
      applied = it.kept.applied;
      small = it.kept.small;
      first = longer_log (length b.specs) (length log) (length (log ++ rec ∷ [])) credit.first (omega (arith, length-append log (rec ∷ []))) it.kept.first;
      turns = it.kept.turns;
      bounded = it.kept.bounded;
    }

-- what changes no row leaves it as it was
pub same_rows_keep :
    (build : Option BuildState) (log : List LogRec) (rec : LogRec) (credit : Credit) → changed_rid log rec ≡ None
    → KeepsCredit (entries_waiting build log) (indexes_of_build build) (length log) credit
    → KeepsCredit (entries_waiting build (log ++ rec ∷ [])) (indexes_of_build build) (length (log ++ rec ∷ [])) credit
same_rows_keep None log rec credit no_rid kept = record {
  appended = kept.appended;
  counted = kept.counted;
  paced = kept.paced;
  applied = kept.applied;
  small = kept.small;
  turns = kept.turns;
  bounded = kept.bounded;
  first = longer_log 0 (length log) (length (log ++ rec ∷ [])) credit.first (omega (arith, length-append log (rec ∷ []))) kept.first;
}
same_rows_keep (Some b) log rec credit no_rid kept =
    let more = adds_before (length b.specs) b log rec in
    let none : more.count ≡ 0 = more.none no_rid in
    let same : all_unfed b (log ++ rec ∷ []) ≡ all_unfed b log = omega (arith, more.is, none) in
    record {
      appended = kept.appended;
      counted = omega (arith, kept.counted, same);
      paced = elim kept.paced [
        | inl few ↦ inl (omega (arith, few, same))
        | inr credit_is ↦ inr credit_is
      ];
      applied = kept.applied;
      small = kept.small;
      first = longer_log (length b.specs) (length log) (length (log ++ rec ∷ [])) credit.first (omega (arith, length-append log (rec ∷ []))) kept.first;
      turns = kept.turns;
      bounded = kept.bounded;
    }

-- A step of the table, with the credit that there may be.

-- the build and the log are as they were
pub kept_same :
    (old new : LiveState) (credit : Option Credit) → new.build ≡ old.build → new.heap.log ≡ old.heap.log → CreditIsKept old credit
    → CreditIsKept new credit
kept_same old new None build log kept = tt
kept_same old new (Some credit) build log kept =
    subst (λ (o : Option BuildState). KeepsCredit (entries_waiting o new.heap.log) (indexes_of_build o) (length new.heap.log) credit) (sym build)
    (subst (λ (l : List LogRec). KeepsCredit (entries_waiting old.build l) (indexes_of_build old.build) (length l) credit) (sym log) kept)

-- there was credit for a write, and nothing was written
pub kept_unwritten : (live : LiveState) (credit : Option Credit) → WriteHasCredit live credit → CreditIsKept live credit
kept_unwritten live None may = tt
kept_unwritten live (Some credit) it = it.kept

-- a record was written for which there was credit
pub kept_written :
    (old new : LiveState) (rec : LogRec) (credit : Option Credit) → new.build ≡ old.build → new.heap.log ≡ old.heap.log ++ rec ∷ []
    → WriteHasCredit old credit → CreditIsKept new credit
kept_written old new rec None build log may = tt
kept_written old new rec (Some credit) build log may =
    subst (λ (o : Option BuildState). KeepsCredit (entries_waiting o new.heap.log) (indexes_of_build o) (length new.heap.log) credit) (sym build)
    (subst (λ (l : List LogRec). KeepsCredit (entries_waiting old.build l) (indexes_of_build old.build) (length l) credit) (sym log)
    (write_keeps old.build old.heap.log rec credit may))

-- a transaction committed
pub kept_committed :
    (old new : LiveState) (txn number : ℕ) (credit : Option Credit) → OnHeap (Commits txn) old number new → CreditIsKept old credit
    → CreditIsKept new credit
kept_committed old new txn number None does kept = tt
kept_committed old new txn number (Some credit) does kept =
    let build : new.build ≡ old.build = ap (λ (s : LiveState). s.build) does.1 in
    let log : new.heap.log ≡ old.heap.log ++ Commit txn ∷ [] = ap (λ (h : HeapState). h.log) does.0.1 in
    subst (λ (o : Option BuildState). KeepsCredit (entries_waiting o new.heap.log) (indexes_of_build o) (length new.heap.log) credit) (sym build)
    (subst (λ (l : List LogRec). KeepsCredit (entries_waiting old.build l) (indexes_of_build old.build) (length l) credit) (sym log)
    (same_rows_keep old.build old.heap.log (Commit txn) credit refl kept))

-- a row was inserted
pub kept_inserted :
    (old new : LiveState) (txn : ℕ) (row : List Cell) (answer : ℕ × Rid) (credit : Option Credit) → OnRows (Inserts txn row) old answer new
    → WriteHasCredit old credit → CreditIsKept new credit
kept_inserted old new txn row answer credit does may =
    kept_written old new (Write txn answer.1 (Some row)) credit (ap (λ (s : LiveState). s.build) does.1) (ap (λ (h : HeapState). h.log) does.0.2) may

pub kept_updated :
    (old new : LiveState) (txn : ℕ) (rid : Rid) (row : List Cell) (answer : ℕ × Rid) (credit : Option Credit)
    → OnRows (Updates txn rid row) old answer new → WriteHasCredit old credit → CreditIsKept new credit
kept_updated old new txn rid row answer credit does may =
    kept_written old new (Write txn rid (Some row)) credit (ap (λ (s : LiveState). s.build) does.1) (ap (λ (h : HeapState). h.log) does.0.2) may

pub kept_deleted :
    (old new : LiveState) (txn : ℕ) (rid : Rid) (answer : ℕ × Rid) (credit : Option Credit) → OnRows (Deletes txn rid) old answer new
    → WriteHasCredit old credit → CreditIsKept new credit
kept_deleted old new txn rid answer credit does may =
    kept_written old new (Write txn rid None) credit (ap (λ (s : LiveState). s.build) does.1) (ap (λ (h : HeapState). h.log) does.0.2) may

-- a write was undone, or the transaction ended without one
undone_by :
    (old new : LiveState) (txn : ℕ) (newest : Option ℕ) (credit : Option Credit) → new.build ≡ old.build → new.heap ≡ after_step old.heap txn newest
    → WriteHasCredit old credit → CreditIsKept new credit
undone_by old new txn None credit build heap may =
    kept_same old new credit build (ap (λ (h : HeapState). h.log) heap) (kept_unwritten old credit may)
undone_by old new txn (Some n) credit build heap may =
    kept_written old new (Undo txn n) credit build (ap (λ (h : HeapState). h.log) heap) may

pub kept_undone :
    (old new : LiveState) (txn : ℕ) (answer : Undone) (credit : Option Credit) → OnRows (Undoes txn) old answer new → WriteHasCredit old credit
    → CreditIsKept new credit
kept_undone old new txn answer credit does may =
    undone_by old new txn (newest_standing old.heap.log txn) credit (ap (λ (s : LiveState). s.build) does.1) does.0.2 may

pub at_least : (a b : ℕ) → (a < b → ⊥) → b ≤ a
at_least a b never = elim (cases_lt a b) [
  | inl less ↦ absurd (never less)
  | inr more ↦ more
]

-- A turn of a build that catches up.

-- how many indexes a build has that runs
pub few_in_build : (o : Option BuildState) → OnBuild o (λ b. length b.specs ≤ 8) → indexes_of_build o ≤ 8
few_in_build None few = omega arith
few_in_build (Some b) few = few

-- the credit of a build that begins to catch up
pub begun_keeps : (live : LiveState) (first : ℕ) → first ≡ waiting_in live → first < 2 ^ 63 → CreditIsKept live (Some (record { first = first; taken = 0; applied = 0; turns = 0 }))
begun_keeps live first is small = record {
  appended = 0;
  counted = omega (arith, is);
  paced = inr (omega arith);
  applied = omega arith;
  small = small;
  first = omega (arith, is, few live.build);
  turns = omega arith;
  bounded = omega arith;
} where
  few : (o : Option BuildState) → entries_waiting o live.heap.log ≤ indexes_of_build o * (2 * length live.heap.log)
  few None = omega arith
  few (Some b) = before_few (length b.specs) b live.heap.log

-- more of what was taken is applied, but no more than that
pub applied_keeps :
    (live : LiveState) (credit : Credit) (applied : ℕ) → credit.applied ≤ applied → applied ≤ credit.taken → CreditIsKept live (Some credit)
    → CreditIsKept live (Some (record credit { applied = applied }))
applied_keeps live credit applied more most kept = record {
  appended = kept.appended;
  counted = kept.counted;
  small = kept.small;
  first = kept.first;
  turns = kept.turns;
  bounded = kept.bounded;
  paced = elim kept.paced [
    | inl few ↦ inl few
    | inr credit_is ↦ inr (omega (arith, credit_is, more))
  ];
  applied = most;
}

-- all that was taken is applied
pub settled_keeps :
    (live : LiveState) (held : Option Credit) (credit after : Credit) → held ≡ Some credit → after ≡ record credit { applied = credit.taken } → CreditIsKept live held
    → CreditIsKept live (Some after)
settled_keeps live held credit after is same kept =
    let its : CreditIsKept live (Some credit) = subst (CreditIsKept live) is kept in
    subst (λ (x : Credit). CreditIsKept live (Some x)) (sym same) (applied_keeps live credit credit.taken its.applied (omega arith) its)

-- and so is a portion of it
pub portion_keeps :
    (live : LiveState) (held : Option Credit) (credit after : Credit) (count : ℕ) → held ≡ Some credit
    → after ≡ record credit { applied = max credit.applied (min count credit.taken) } → CreditIsKept live held → CreditIsKept live (Some after)
portion_keeps live held credit after count is same kept =
    let its : CreditIsKept live (Some credit) = subst (CreditIsKept live) is kept in
    let applied : ℕ = max credit.applied (min count credit.taken) in
    let more : credit.applied ≤ applied = omega arith in
    let most : applied ≤ credit.taken = omega (arith, its.applied) in
    subst (λ (x : Credit). CreditIsKept live (Some x)) (sym same) (applied_keeps live credit applied more most its)

-- where more entries wait than a switch takes, what was taken is less than twice what waited first
pub paced_by :
    (live : LiveState) (credit : Credit) → CreditIsKept live (Some credit) → indexes_of_build live.build ≤ 8 → 1024 < waiting_in live
    → 2 * waiting_in live + credit.taken ≤ 1024 + 2 * credit.first
paced_by live credit kept few many = elim kept.paced [
  | inl less ↦ absurd (omega (arith, less, few, many))
  | inr more ↦ omega (arith, more, kept.counted, kept.applied)
]

-- so that all can be counted, with those that a turn takes
pub countable : (live : LiveState) (credit : Credit) (fed : ℕ) → CreditIsKept live (Some credit) → indexes_of_build live.build ≤ 8 → 1024 < waiting_in live
    → fed ≤ waiting_in live → credit.taken + fed < 2 ^ 64
countable live credit fed kept few many most =
    let paced = paced_by live credit kept few many in
    omega (arith, paced, kept.small, many, most)

-- a turn took more entries than a switch takes
module _
    (old new : LiveState) (credit : Credit) (fed : ℕ) (left : waiting_in new + fed ≡ waiting_in old) (kept : CreditIsKept old (Some credit))
    (few : indexes_of_build old.build ≤ 8) (many : 1024 < waiting_in old) (enough : 1025 ≤ fed) where
  pub takes_more : TakesMore credit (record credit { taken = credit.taken + fed; turns = credit.turns + 1 })
  takes_more =
      let paced = paced_by old credit kept few many in
      record { first = refl; more = omega (arith, enough); bounded = omega (arith, paced, many); turns = refl }

  pub fed_keeps :
      indexes_of_build new.build ≡ indexes_of_build old.build → length new.heap.log ≡ length old.heap.log
      → CreditIsKept new (Some (record credit { taken = credit.taken + fed; turns = credit.turns + 1 }))
  fed_keeps same log =
      let paced = paced_by old credit kept few many in
      record {
        appended = kept.appended;
        counted = omega (arith, left, kept.counted);
        paced = elim kept.paced [
          | inl less ↦ inl (omega (arith, less, left, same))
          | inr more ↦ inr more
        ];
        applied = omega (arith, kept.applied);
        small = kept.small;
        first = subst (λ n. credit.first ≤ n) (sym (ap₂ (λ i r. i * (2 * r)) same log)) kept.first;
        turns = omega (arith, kept.turns, enough);
        bounded = omega (arith, kept.turns, paced, many);
      }

-- at least as much was fed as a turn takes: all that waits, or nearly the most of an index
pub enough_fed : (most fed waiting : ℕ) → (most < fed + 1024) ⊎ (fed ≡ waiting) → 2048 ≤ most → 1024 < waiting → 1025 ≤ fed
enough_fed most fed waiting (inl full) least many = omega (arith, full, least)
enough_fed most fed waiting (inr all) least many = omega (arith, all, many)

-- what is told of how a build caught up, by its credit
pub credit_bounds :
    (live : LiveState) (credit : Credit) → CreditIsKept live (Some credit)
    → IsBounded (indexes_of_build live.build) (length live.heap.log) (caught_up_by credit)
credit_bounds live credit kept = record { waited = kept.first; turns = kept.bounded }

-- of a log that is longer it is so too
pub longer_bounds : (indexes records more : ℕ) (caught_up : CaughtUp) → records ≤ more → IsBounded indexes records caught_up → IsBounded indexes more caught_up
longer_bounds indexes records more caught_up longer bounds = record {
  waited = longer_log indexes records more caught_up.waited longer bounds.waited;
  turns = bounds.turns;
}
