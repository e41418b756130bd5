-- The side-files of a running build, one for each index, and what a change of a row appends to them.
use Rattle.std.specs.Prelude.{◌≡◌, ℕ, ◌+◌, ◌-◌, ◌<◌, ◌≤◌, ◌==◌, ◌^◌, ◌++◌, Bool, ◌||◌, nat_le, is_some, if◌then◌else◌, List, [], length, map, filter, take, drop, get_or}
use Rattle.std.specs.Prelude.{Option, Some, None}
use Rattle.std.specs.List.{All, slice_get}
use Rattle.keybytes.specs.Keys.{KeySpecValue, IsKeyOf}
use Rattle.keybytes.specs.Pairs.{pair_with}
use Rattle.keybytes.specs.declared.cell.Cell.{Cell}
use Rattle.keybytes.specs.declared.fault.Fault.{Fault}
use Rattle.keybytes.specs.declared.fault.Fault.TheVariants.{NoBuild, BadCount}
use Rattle.keybytes.specs.declared.rid.Rid.{Rid}
use Rattle.heap_log.specs.declared.record.LogRec.{LogRec}
use Rattle.side_file.specs.Changes.{all_appended}
use Rattle.side_file.specs.Ends.{PutEnd, RingId}
use Rattle.side_file.specs.Kept.{last_ones}
use Rattle.side_file.specs.Entries.{entry_of}
use Rattle.side_file.specs.SideFileValue.{SideFileValue}
use Rattle.side_file.specs.declared.entry.Entry.{Entry}
use Rattle.visibility.specs.SideEntries.{SideEntry, changes}
use Rattle.side_file.specs.Ends.{TakeEnd, PutEndLooked}
use Rattle.build_events.specs.CoreState.{BuildState, scanning_of}
use Rattle.build_events.specs.Scanning.{scanned_at}
use Rattle.build_events.specs.SideEntries.{side_entries}
use Rattle.build_events.specs.Workers.{fed_to}

-- whether the build has to hear of a change at the RID by now: its page is newer than the build, or was copied. It is `is_visible`,
-- with the log as it is now
abbrev pub sees : BuildState → Rid → Bool
sees b rid = nat_le b.pages rid.page || is_some (scanned_at b.scans rid.page)

-- what a change of the row at a RID appends for an index of that specification
abbrev pub noted : BuildState → KeySpecValue → Rid → Option (List Cell) → Option (List Cell) → List SideEntry
noted b spec rid old new = if sees b rid then changes (pair_with spec rid old) (pair_with spec rid new) else []

-- the entries of that build
abbrev pub own_entries : ℕ → List Entry → List Entry
own_entries build entries = filter (λ entry. entry.build == build) entries

-- no entry that these rings were sent is of a build with a greater number
abbrev pub EntriesAreOfBuilds : ℕ → List (PutEnd Entry) → Type 0
EntriesAreOfBuilds builds puts = All (λ put. All (λ entry. entry.build ≤ builds) put.sent) puts

-- the side-file has that build's entries for an index of that specification, fed or left, under the build's number
pub record HasEntries (log : List LogRec) (b : BuildState) (index : ℕ) (spec : KeySpecValue) (side : SideFileValue) : Type 0 where
  pub entries : all_appended side ≡ map (entry_of b.number) (side_entries (scanning_of b spec) log)
  -- each has the key of a row
  pub keys : All (λ entry. IsKeyOf spec entry.key) (all_appended side)
  pub count : fed_to b index ≡ length side.fed
  -- those fed are the last that its ring was sent
  pub sent : last_ones (length side.fed) side.end.sent ≡ side.fed
  -- and the only ones of the build
  pub own : own_entries b.number side.end.sent ≡ side.fed

-- the first of these side-files have the entries of that build, one for each of its indexes
abbrev pub HaveEntries : List LogRec → BuildState → List SideFileValue → Type 0
HaveEntries log b sides =
    (index : ℕ) (spec : KeySpecValue) (side : SideFileValue) → slice_get b.specs index ≡ Some spec → slice_get sides index ≡ Some side
    → HasEntries log b index spec side

-- so they have those of the running build, if one runs
abbrev pub SidesFollow : List LogRec → Option BuildState → List SideFileValue → Type 0
SidesFollow log None sides = Unit {0}
SidesFollow log (Some b) sides = HaveEntries log b sides

-- the ends of these side-files' rings that put
abbrev pub put_ends : List SideFileValue → List (PutEnd Entry)
put_ends sides = map (λ side. side.end) sides

-- both ends are of one ring, and of so many entries that it was sent last, all but so many wait in it
pub record IsFed (fed applied : ℕ) (put : PutEnd Entry) (end : TakeEnd Entry) : Type 0 where
  pub same_ring : put.ring ≡ end.ring
  pub waiting : end.received ++ last_ones (fed - applied) put.sent ≡ put.sent
  pub counted : applied ≤ fed
  pub were_sent : fed ≤ length put.sent
  pub countable : fed < 2 ^ 64

-- no more entries of an index were fed than its side-file had
abbrev pub NoneAhead : List LogRec → BuildState → Type 0
NoneAhead log b = (index : ℕ) (spec : KeySpecValue) → slice_get b.specs index ≡ Some spec → fed_to b index ≤ length (side_entries (scanning_of b spec) log)

-- the entries of an index that were fed are the first of its side-file, and the last that its ring was sent
pub record AreFedEntries (log : List LogRec) (b : BuildState) (index : ℕ) (spec : KeySpecValue) (put : PutEnd Entry) : Type 0 where
  pub entries : last_ones (fed_to b index) put.sent ≡ map (entry_of b.number) (take (fed_to b index) (side_entries (scanning_of b spec) log))
  -- the ring was sent no other entry of the build
  pub no_other : own_entries b.number put.sent ≡ map (entry_of b.number) (take (fed_to b index) (side_entries (scanning_of b spec) log))
  pub there : fed_to b index ≤ length (side_entries (scanning_of b spec) log)

-- so it is of each index of the build
abbrev pub EachEntryOnce : List LogRec → BuildState → List (PutEnd Entry) → Type 0
EachEntryOnce log b puts =
    (index : ℕ) (spec : KeySpecValue) (put : PutEnd Entry) → slice_get b.specs index ≡ Some spec → slice_get puts index ≡ Some put
    → AreFedEntries log b index spec put

-- both ends of the side-file's ring were looked at, and nothing was put or taken
pub record HasLookedAtSide (put : PutEnd Entry) (end : TakeEnd Entry) (new_put : PutEnd Entry) (new_end : TakeEnd Entry) : Type 0 where
  pub put_end : PutEndLooked put new_put
  pub ring : new_end.ring ≡ end.ring
  pub received : new_end.received ≡ end.received

-- all that waits is seen at the end that takes, and at the other all that is free
pub record SeesSide (waiting : ℕ) (put : PutEnd Entry) (end : TakeEnd Entry) : Type 0 where
  pub in_order : end.received ++ end.known ≡ put.sent
  pub counted : waiting ≡ length end.known
  pub free : 256 ≤ put.free + waiting

-- why there is no side-file of that index
abbrev pub side_refusal : Option BuildState → ℕ → Option Fault
side_refusal None index = Some NoBuild
side_refusal (Some b) index = if nat_le (length b.specs) index then Some BadCount else None

-- each of the entries of an index has the key of a row
abbrev pub HaveEntryKeys : Option BuildState → ℕ → List Entry → Type 0
HaveEntryKeys None index entries = ⊥
HaveEntryKeys (Some b) index entries = (spec : KeySpecValue) → slice_get b.specs index ≡ Some spec → All (λ entry. IsKeyOf spec entry.key) entries

-- these are the entries of the running build's index that were not handed on, in order, under the build's number
abbrev pub AreEntriesLeft : List LogRec → Option BuildState → ℕ → List Entry → Type 0
AreEntriesLeft log None index entries = ⊥
AreEntriesLeft log (Some b) index entries = (spec : KeySpecValue) → slice_get b.specs index ≡ Some spec
    → entries ≡ map (entry_of b.number) (drop (get_or b.fed index 0) (side_entries (scanning_of b spec) log))

-- which rings these ends put entries into
abbrev pub side_rings : List (PutEnd Entry) → List RingId
side_rings sides = map (λ end. end.ring) sides

-- which rings these ends take entries from
abbrev pub taken_rings : List (TakeEnd Entry) → List RingId
taken_rings sides = map (λ end. end.ring) sides

-- the end that takes, once it took all that its ring was sent
abbrev pub drained_end : PutEnd Entry → TakeEnd Entry
drained_end end = record { ring = end.ring; received = end.sent; known = [] }
