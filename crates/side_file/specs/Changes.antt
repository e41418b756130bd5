-- What the calls of a side-file leave.
use Rattle.std.specs.Prelude.{◌≡◌, ℕ, ◌+◌, ◌-◌, ◌^◌, ◌<◌, ◌≤◌, min, max, List, [], ◌∷◌, ◌++◌, length, take, drop}
use Rattle.side_file.specs.declared.entry.Entry.{Entry}
use Rattle.side_file.specs.SideFileValue.{SideFileValue}
use Rattle.side_file.specs.Kept.{last_ones}

-- all that was appended since it was new or last reset, in order
abbrev pub all_appended : SideFileValue → List Entry
all_appended side = side.fed ++ side.left

-- what every side-file keeps: what was fed is what the ring was sent last, a place never used is known to be free, and all can be counted
pub record IsSideFile (side : SideFileValue) : Type 0 where
  pub capacity : side.end.capacity ≡ 256
  pub fed_last : last_ones (length side.fed) side.end.sent ≡ side.fed
  pub fed_was_sent : length side.fed ≤ length side.end.sent
  pub spare : side.end.free ≤ side.end.capacity
  pub unused : side.end.capacity ≤ side.end.free + length side.end.sent
  pub few : length side.fed + length side.left < 2 ^ 60

-- nothing is left, and what was fed is forgotten
abbrev pub emptied : SideFileValue → SideFileValue
emptied side = record { fed = []; left = []; room = side.room; end = side.end }

-- an entry more is left, in the room for it
abbrev pub appended : SideFileValue → Entry → SideFileValue
appended side entry = record { fed = side.fed; left = side.left ++ entry ∷ []; room = side.room - 1; end = side.end }

-- there is room for n more at the least
abbrev pub Reserves : {R : Type 0} → ℕ → SideFileValue → R → SideFileValue → Type 0
Reserves n old reply new = new ≡ record { fed = old.fed; left = old.left; room = max old.room n; end = old.end }

-- the most entries that one call feeds
abbrev pub feed_most : ℕ → SideFileValue → ℕ
feed_most k side = min k (min 256 (length side.left))

-- the first entries that are left went into the ring, in order
pub record Feeds (old : SideFileValue) (count : ℕ) (new : SideFileValue) : Type 0 where
  pub fed : new.fed ≡ old.fed ++ take count old.left
  pub left : new.left ≡ drop count old.left
  pub room : new.room ≡ old.room
  pub ring : new.end.ring ≡ old.end.ring
  pub capacity : new.end.capacity ≡ old.end.capacity
  pub sent : new.end.sent ≡ old.end.sent ++ take count old.left
  pub free : old.end.free ≤ new.end.free + count

-- nothing changed but that more places may be known to be free
pub record Looks (old new : SideFileValue) : Type 0 where
  pub fed : new.fed ≡ old.fed
  pub left : new.left ≡ old.left
  pub room : new.room ≡ old.room
  pub ring : new.end.ring ≡ old.end.ring
  pub capacity : new.end.capacity ≡ old.end.capacity
  pub sent : new.end.sent ≡ old.end.sent
  pub free : old.end.free ≤ new.end.free

-- of so many entries that are left the first are taken by whole chunks: all of them, if they are no more than the most, else more than that less a chunk
pub record TakesMost (most left count : ℕ) : Type 0 where
  pub all : left ≤ most → count ≡ left
  pub stops : count < left → most < count + 1024
