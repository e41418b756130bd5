-- Entries of one index were fed: what a table keeps of its side-files then, and what stands beside it.
use Rattle.std.proofs.Common.{◌≡◌, ℕ, ◌+◌, ◌<◌, ◌≤◌, ◌^◌, List, length, set, Option, Some, sym, subst, arith}
use Rattle.std.specs.List.{slice_get}
use Rattle.std.proofs.lemmas.List.{map-set}
use Rattle.keybytes.specs.Keys.{KeySpecValue}
use Rattle.heap_table.specs.HeapState.{HeapState}
use Rattle.side_file.specs.Changes.{all_appended, Feeds, IsSideFile}
use Rattle.side_file.specs.Ends.{PutEnd}
use Rattle.side_file.specs.SideFileValue.{SideFileValue}
use Rattle.side_file.specs.declared.entry.Entry.{Entry}
use Rattle.page_workers.specs.declared.copied.Copied.{Copied}
use Rattle.build_events.specs.BuildSteps.{after_feed}
use Rattle.build_events.specs.CoreState.{BuildState}
use Rattle.build_events.specs.Workers.{fed_to, unfed}
use Rattle.table_scan.specs.SideFiles.{EntriesAreOfBuilds, HasEntries, HaveEntries, put_ends}
use Rattle.table_scan.specs.TableBuilds.{IsBuildOf}
use Rattle.table_scan.proofs.Feeding.{build_fed, fed_countable, left_unfed, sides_fed}
use Rattle.table_scan.proofs.OwnEntries.{sent_at, sent_fed, sent_set}
use Rattle.building.specs.BuildingValue.{BuildingValue, WorkValue}
use Rattle.building.specs.WorkOn.{WorkMatches, WorkersFollow}
use Rattle.live_lemmas.proofs.Feeding.{follow_fed, work_fed}
use Rattle.page_workers.proofs.Places.{map_at, there_is}

-- so many entries of an index's side-file were fed, the first that were left
pub record IsFedFrom
    (heap : HeapState) (b : BuildState) (index : ℕ) (sides : List SideFileValue) (old : SideFileValue) (count : ℕ) (new : SideFileValue)
    : Type 0 where
  pub follows : IsBuildOf heap.schema heap.log b
  pub less : index < length b.specs
  pub there : slice_get sides index ≡ Some old
  pub have : HaveEntries heap.log b sides
  pub feeds : Feeds old count new
  pub few : count ≤ length old.left
  pub all : all_appended new ≡ all_appended old
  pub kept : IsSideFile new

module _
    {heap : HeapState} {b : BuildState} {index : ℕ} {sides : List SideFileValue} {old : SideFileValue} {count : ℕ} {new : SideFileValue}
    (it : IsFedFrom heap b index sides old count new) where
  counted : index < length b.fed
  counted = omega (arith, it.less, it.follows.fed_many)

  pub its_spec : (s : KeySpecValue) × (slice_get b.specs index ≡ Some s)
  its_spec = there_is b.specs index it.less

  pub its : HasEntries heap.log b index its_spec.0 old
  its = it.have index its_spec.0 old its_spec.1 it.there

  pub countable : fed_to b index + count < 2 ^ 64
  countable = fed_countable heap.log b index its_spec.0 counted old new count its it.feeds it.few it.all it.kept

  pub follows_fed : IsBuildOf heap.schema heap.log (after_feed b index count)
  follows_fed = build_fed heap.schema heap.log b index count it.follows

  pub have_fed : HaveEntries heap.log (after_feed b index count) (set sides index new)
  have_fed = sides_fed heap.log b index sides old new count counted it.there it.have it.feeds it.few it.all

  pub sent_of_builds : (builds : ℕ) → b.number ≤ builds → EntriesAreOfBuilds builds (put_ends sides) → EntriesAreOfBuilds builds (put_ends (set sides index new))
  sent_of_builds builds number before =
      sent_set builds sides index new before
      (sent_fed heap.log b index its_spec.0 old new count builds its it.feeds number (sent_at builds sides index old before it.there))

  pub left_is : unfed b heap.log index (slice_get b.specs index) ≡ length old.left
  left_is = left_unfed heap.log b index its_spec.0 old its_spec.1 its

  pub work_follows : (work : Option WorkValue) → WorkMatches heap.schema heap.log (Some b) work → WorkMatches heap.schema heap.log (Some (after_feed b index count)) work
  work_follows work = work_fed heap.schema heap.log b index count work

  pub workers_follow :
      (pages : List (PutEnd Copied)) (building : BuildingValue) (work : Option WorkValue)
      → WorkersFollow heap.schema pages (put_ends sides) building (Some b) work
      → WorkersFollow heap.schema pages (put_ends (set sides index new)) building (Some (after_feed b index count)) work
  workers_follow pages building work follow =
      subst (λ (ps : List (PutEnd Entry)). WorkersFollow heap.schema pages ps building (Some (after_feed b index count)) work)
      (sym (map-set (λ (s : SideFileValue). s.end) sides index new))
      (follow_fed heap.log b index its_spec.0 counted old new count its it.feeds it.few it.all heap.schema pages (put_ends sides) building work
      (map_at (λ (s : SideFileValue). s.end) sides index old it.there) countable follow)
