-- The lines of a text, and those of the rows that come from it.
use Rattle.std.specs.Prelude.{◌≡◌, ◌≢◌, ◌+◌, ◌<◌, ◌≤◌, ◌==◌, ◌&&◌, ◌||◌, not, ℕ, zero, suc, Bool, true, false, max, min, if◌then◌else◌, List, [], ◌∷◌, length, slice_index, slice_index_or}
use Rattle.keybytes.specs.declared.rid.Rid.{Rid}

-- whether the byte is of the end of a line
abbrev pub is_end_byte : ℕ → Bool
is_end_byte byte = (byte == 10) || (byte == 13)

-- whether a line ends with the byte at that place: a \n, or a \r that no \n follows
abbrev pub ends_line : List ℕ → ℕ → Bool
ends_line text place = (slice_index text place == 10) || ((slice_index text place == 13) && not (slice_index text (place + 1) == 10))

-- how many lines end before that place
abbrev pub lines_before : List ℕ → ℕ → ℕ
lines_before text zero = 0
lines_before text (suc place) = lines_before text place + (if ends_line text place then 1 else 0)

-- the line of the byte at that place, from 1
abbrev pub line_at : List ℕ → ℕ → ℕ
line_at text place = lines_before text place + 1

-- a text of which the lines are counted up to a place
pub record LineCount : Type 0 where
  pub text : List ℕ
  pub passed : ℕ

-- the first place from one on whose byte is of no line's end, or the end of the text
pub record GoesOnAt (text : List ℕ) (from place : ℕ) : Type 0 where
  pub inside : place ≤ length text
  pub onward : min from (length text) ≤ place
  pub first : (other : ℕ) → from ≤ other → other < place → is_end_byte (slice_index text other) ≡ true
  pub here : place < length text → is_end_byte (slice_index text place) ≡ false

-- the lines are counted up to where the text goes on from a place, or from where they were counted to
pub record CountsTo (before : LineCount) (place : ℕ) (after : LineCount) : Type 0 where
  pub same : after.text ≡ before.text
  pub onward : before.passed ≤ after.passed
  pub goes_on : GoesOnAt before.text (max place before.passed) after.passed

-- the line of the row at that place, of the lines of each page by slot
abbrev pub line_of : List (List ℕ) → Rid → ℕ
line_of lines rid = slice_index (slice_index_or lines rid.page []) rid.slot

-- at that place that line is noted, and elsewhere what was
pub record NotesLine (before : List (List ℕ)) (rid : Rid) (line : ℕ) (after : List (List ℕ)) : Type 0 where
  pub here : line_of after rid ≡ line
  pub elsewhere : (other : Rid) → other ≢ rid → line_of after other ≡ line_of before other

-- of each row the line of some place of the text is noted; these places lie between two others, and never go back
abbrev pub AreNoted : List ℕ → ℕ → List Rid → ℕ → List (List ℕ) → Type 0
AreNoted text from [] to lines = from ≤ to
AreNoted text from (rid ∷ rids) to lines = (place : ℕ) × (from ≤ place) × (line_of lines rid ≡ line_at text place) × AreNoted text place rids to lines
