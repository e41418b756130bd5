-- Which RIDs are visible as the ranges go on.
use Rattle.std.proofs.Common.{◌≡◌, ℕ, ◌<◌, Bool, true, false, List, length, refl, Option}
use Rattle.std.proofs.lemmas.Bool.{leb-false, or_left, or_right}
use Rattle.std.specs.Prelude.{nat_le, ◌||◌, ◌==◌}
use Rattle.keybytes.specs.declared.rid.Rid.{Rid}
use Rattle.scan_range.specs.Cuts.{CutsValue}
use Rattle.scan_range.specs.Ranges.{RangesValue, AreRanges, at_start, after_advance, next_of, is_done, are_done, is_passed}
use Rattle.scan_range.proofs.Passed.{none_passed-at_start, passed-after_advance, all_passed-done}
use Rattle.visibility.specs.Visible.{is_visible_in}

or_nothing : (newer other : Bool) → other ≡ false → (newer || other) ≡ newer
or_nothing true other e = refl
or_nothing false other e = e

or_assoc : (a b c whole : Bool) → whole ≡ (b || c) → (a || whole) ≡ ((a || b) || c)
or_assoc true b c whole e = refl
or_assoc false b c whole e = e

-- at the start only the pages are that are newer than the build
pub visible-at_start : (cuts : CutsValue) (rid : Rid) → is_visible_in (at_start cuts) rid ≡ nat_le cuts.pages rid.page
visible-at_start cuts rid = or_nothing (nat_le cuts.pages rid.page) _ (none_passed-at_start cuts rid.page)

-- an `advance` makes the page visible that came next, and no other
pub visible-after_advance : (ranges : RangesValue) (range : ℕ) (rid : Rid) → AreRanges ranges → range < length ranges.ends
    → is_done ranges range ≡ false
    → is_visible_in (after_advance ranges range) rid ≡ (is_visible_in ranges rid || rid.page == next_of ranges range)
visible-after_advance ranges range rid r l open_yet =
    or_assoc (nat_le ranges.pages rid.page) (is_passed ranges rid.page) (rid.page == next_of ranges range)
    (is_passed (after_advance ranges range) rid.page) (passed-after_advance ranges range rid.page r l open_yet)

-- once all ranges are done, every RID is visible
all_as : (ranges : RangesValue) (rid : Rid) (newer : Bool) → AreRanges ranges → are_done ranges ≡ true → nat_le ranges.pages rid.page ≡ newer
    → is_visible_in ranges rid ≡ true
all_as ranges rid true r all e = or_left (nat_le ranges.pages rid.page) (is_passed ranges rid.page) e
all_as ranges rid false r all e =
    or_right (nat_le ranges.pages rid.page) (is_passed ranges rid.page) (all_passed-done ranges rid.page r all (leb-false _ _ e))

pub all_visible-done : (ranges : RangesValue) (rid : Rid) → AreRanges ranges → are_done ranges ≡ true → is_visible_in ranges rid ≡ true
all_visible-done ranges rid r all = all_as ranges rid _ r all refl
