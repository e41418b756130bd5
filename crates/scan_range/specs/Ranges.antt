-- How far each range of a build is.
use Rattle.std.specs.Prelude.{◌≡◌, ℕ, ◌+◌, ◌≤◌, ◌<◌, Bool, true, false, nat_lt, nat_le, if◌then◌else◌, List, map, length, get_or, set, Option, Some, None}
use Rattle.std.specs.List.{range_with_len, list_all}
use Rattle.keybytes.specs.declared.fault.Fault.{Fault}
use Rattle.keybytes.specs.declared.fault.Fault.TheVariants.{RangeDone}
use Rattle.scan_range.specs.Cuts.{CutsValue, range_start, range_end, range_of, are_cuts}

-- the cuts, and in each range the page that comes next
pub record RangesValue : Type 0 where
  pub pages : ℕ
  pub ends : List ℕ
  pub next : List ℕ

-- at the start, each range's first page comes next
abbrev pub at_start : CutsValue → RangesValue
at_start cuts = record {
  pages = cuts.pages;
  ends = cuts.ends;
  next = map (range_start cuts.ends) (range_with_len 0 (length cuts.ends));
}

abbrev pub next_of : RangesValue → ℕ → ℕ
next_of ranges range = get_or ranges.next range 0

-- whether no page of the range is left
abbrev pub is_done : RangesValue → ℕ → Bool
is_done ranges range = nat_le (range_end ranges.ends range) (next_of ranges range)

abbrev pub advance_refusal : RangesValue → ℕ → Option Fault
advance_refusal ranges range = if is_done ranges range then Some RangeDone else None

abbrev pub after_advance : RangesValue → ℕ → RangesValue
after_advance ranges range = record ranges { next = set ranges.next range (next_of ranges range + 1) }

-- whether no page is left in any range
abbrev pub are_done : RangesValue → Bool
are_done ranges = list_all (is_done ranges) (range_with_len 0 (length ranges.ends))

-- whether that range, if there is one, is past the page
abbrev pub is_past : RangesValue → Option ℕ → ℕ → Bool
is_past ranges None page = false
is_past ranges (Some range) page = nat_lt page (next_of ranges range)

-- whether a page was passed: it lies in a range, before the page that comes next there
abbrev pub is_passed : RangesValue → ℕ → Bool
is_passed ranges page = is_past ranges (range_of ranges.ends page) page

-- what ranges keep: cuts, and in each range a next page from its start to its end
pub record AreRanges (ranges : RangesValue) : Type 0 where
  pub cuts : are_cuts ranges.pages ranges.ends ≡ true
  pub each : length ranges.next ≡ length ranges.ends
  pub low : (range : ℕ) → range < length ranges.ends → range_start ranges.ends range ≤ next_of ranges range
  pub high : (range : ℕ) → range < length ranges.ends → next_of ranges range ≤ range_end ranges.ends range
