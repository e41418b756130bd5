-- What a change of a row, made ready, appends to the side-files of a build.
use Rattle.std.specs.Prelude.{◌≡◌, ℕ, ◌≤◌, List, [], ◌++◌, length, map, Option, Some, None}
use Rattle.std.specs.List.{All, slice_get}
use Rattle.keybytes.specs.Keys.{KeySpecValue}
use Rattle.keybytes.specs.declared.rid.Rid.{Rid}
use Rattle.heap_table.specs.declared.ready.Ready.{Ready}
use Rattle.side_file.specs.Entries.{entry_of}
use Rattle.side_file.specs.SideFileValue.{SideFileValue}
use Rattle.side_file.specs.declared.entry.Entry.{Entry}
use Rattle.visibility.specs.SideEntries.{entries_of_change}
use Rattle.visibility.specs.declared.change.Change.{Change}
use Rattle.build_events.specs.CoreState.{BuildState}
use Rattle.ready_indexes.specs.Following.{FitsColumns}
use Rattle.table_scan.specs.SideFiles.{noted}

-- the rows that stand before and after the change have the columns of each index of the build
abbrev pub FitsBuild : Ready → BuildState → Type 0
FitsBuild ready b = All (FitsColumns ready) b.specs

-- the pairs that come and go by it are the entries for that index
abbrev pub IsChangeOf : BuildState → ℕ → Ready → Change → Type 0
IsChangeOf b index ready change =
    (spec : KeySpecValue) → slice_get b.specs index ≡ Some spec → entries_of_change ready.rid change ≡ noted b spec ready.rid ready.old ready.new

-- the same of each index
abbrev pub AreChangesOf : BuildState → Ready → List Change → Type 0
AreChangesOf b ready changes = (index : ℕ) (change : Change) → slice_get changes index ≡ Some change → IsChangeOf b index ready change

-- a side-file but for its room
abbrev pub without_room : SideFileValue → SideFileValue
without_room side = record side { room = 0 }

-- these entries were appended to a side-file, and but for its room nothing else was done to it
pub record IsLonger (entries : List Entry) (old new : SideFileValue) : Type 0 where
  pub fed : new.fed ≡ old.fed
  pub left : new.left ≡ old.left ++ entries
  pub end : new.end ≡ old.end

-- the entries of that change, if there is one
abbrev pub change_entries : ℕ → Rid → Option Change → List Entry
change_entries number rid None = []
change_entries number rid (Some change) = map (entry_of number) (entries_of_change rid change)

-- the entries of each change were appended to the side-file of its index
abbrev pub HaveAppended : ℕ → Rid → List Change → List SideFileValue → List SideFileValue → Type 0
HaveAppended number rid changes olds news =
    (k : ℕ) (old new : SideFileValue) → slice_get olds k ≡ Some old → slice_get news k ≡ Some new
    → IsLonger (change_entries number rid (slice_get changes k)) old new

-- so each side-file of the build has heard of it
abbrev pub HaveNoted : BuildState → Ready → List SideFileValue → List SideFileValue → Type 0
HaveNoted b ready olds news =
    (k : ℕ) (spec : KeySpecValue) (old new : SideFileValue) → slice_get b.specs k ≡ Some spec → slice_get olds k ≡ Some old → slice_get news k ≡ Some new
    → IsLonger (map (entry_of b.number) (noted b spec ready.rid ready.old ready.new)) old new

-- how many side-files the running build uses, one for each of its indexes
abbrev pub sides_used : Option BuildState → ℕ
sides_used None = 0
sides_used (Some b) = length b.specs

-- nothing was appended to the side-files behind the first so many
abbrev pub OthersStay : ℕ → List SideFileValue → List SideFileValue → Type 0
OthersStay used olds news =
    (k : ℕ) (old new : SideFileValue) → used ≤ k → slice_get olds k ≡ Some old → slice_get news k ≡ Some new → IsLonger [] old new
