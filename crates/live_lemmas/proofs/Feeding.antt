-- The side-file's ring of a build and its workers: it is looked at, entries go into it, and from it to the index.
use Rattle.std.proofs.Common.{◌≡◌, ℕ, ◌+◌, ◌<◌, ◌≤◌, ◌^◌, List, length, set, Option, Some, None, ap, ◌∙◌, subst, inl, inr}
use Rattle.std.specs.List.{slice_get}
use Rattle.keybytes.specs.Keys.{KeySpecValue}
use Rattle.keybytes.specs.declared.kind.Kind.{Kind}
use Rattle.heap_log.specs.declared.record.LogRec.{LogRec}
use Rattle.side_file.specs.Changes.{all_appended, Feeds}
use Rattle.side_file.specs.Ends.{PutEnd}
use Rattle.side_file.specs.SideFileValue.{SideFileValue}
use Rattle.side_file.specs.declared.entry.Entry.{Entry}
use Rattle.page_workers.specs.declared.copied.Copied.{Copied}
use Rattle.live_lemmas.specs.Builds.{LiveValue, StandsBeside, SideIsLooked, core_state}
use Rattle.building.specs.BuildingValue.{BuildingValue, WorkValue}
use Rattle.building.specs.WorkOn.{WorkMatches, WorkersFollow}
use Rattle.build_events.specs.CoreState.{BuildState}
use Rattle.table_scan.specs.SideFiles.{IsFed, HasEntries}
use Rattle.page_workers.proofs.Places.{at_set}
use Rattle.build_events.specs.BuildSteps.{after_feed}
use Rattle.build_events.specs.Workers.{fed_to}
use Rattle.table_scan.proofs.Feeding.{fed_other, ring_fed}
use Rattle.live_lemmas.proofs.PartOf.{SidesAreSame, one_looked, sides_same, state_sides_looked, works_sides_looked}

-- both ends of the ring of one index were looked at: all goes on
module _
    (index : ℕ) (live new_live : LiveValue) (building new : BuildingValue) (looked : SideIsLooked index live building new_live new) where
  same : SidesAreSame live building new_live new
  same = sides_same live new_live building new (one_looked index live new_live building new looked)

  pub works_side_looked : StandsBeside live building → StandsBeside new_live new
  works_side_looked = works_sides_looked live new_live building new same

  -- and callers see no difference
  pub state_side_looked : core_state new_live new ≡ core_state live building
  state_side_looked = state_sides_looked live new_live building new same

module _
    (log : List LogRec) (b : BuildState) (index : ℕ) (spec : KeySpecValue) (less : index < length b.fed) (old new : SideFileValue) (count : ℕ)
    (has : HasEntries log b index spec old) (feeds : Feeds old count new) (few : count ≤ length old.left) (all : all_appended new ≡ all_appended old) where
  -- the workers follow a feed, as the side-file does
  pub follow_fed :
      (kinds : List Kind) (pages : List (PutEnd Copied)) (puts : List (PutEnd Entry)) (building : BuildingValue) (work : Option WorkValue) → slice_get puts index ≡ Some old.end
      → fed_to b index + count < 2 ^ 64 → WorkersFollow kinds pages puts building (Some b) work
      → WorkersFollow kinds pages (set puts index new.end) building (Some (after_feed b index count)) work
  follow_fed kinds pages puts building None there countable follow = tt
  follow_fed kinds pages puts building (Some w) there countable follow = record {
    fed = λ k it p e at put taken. elim (at_set puts index new.end k p put) [
      | inl here ↦
          let was = follow.fed k it old.end e at (ap (slice_get puts) here.0 ∙ there) taken in
          rw (here.1, here.0) (ring_fed log b index spec less old new count has feeds few all it.applied e countable (subst (λ (i : ℕ). IsFed (fed_to b i) it.applied old.end e) here.0 was))
      | inr other ↦ rw (fed_other b index count k other.0) (follow.fed k it p e at other.1 taken)
    ];
    given = follow.given;
    many = follow.many;
    taking = follow.taking;
    lent = follow.lent;
    drained = follow.drained;
    columns = follow.columns;
  }

pub work_fed :
    (kinds : List Kind) (log : List LogRec) (b : BuildState) (index count : ℕ) (work : Option WorkValue) → WorkMatches kinds log (Some b) work
    → WorkMatches kinds log (Some (after_feed b index count)) work
work_fed kinds log b index count None is = is
work_fed kinds log b index count (Some w) is = record {
  number = is.number;
  specs = is.specs;
  columns = is.columns;
  many = is.many;
  indexes = λ k spec it at there.
      let on = is.indexes k spec it at there in
      record { all = on.all; none_before = on.none_before; there = on.there; loaded = on.loaded; of_build = on.of_build; of_spec = on.of_spec };
}
