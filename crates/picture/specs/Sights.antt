-- What a picture knows of the scan of a build, and on which side of it a RID is.
use Rattle.std.specs.Prelude.{ℕ, ◌||◌, nat_le, if◌then◌else◌, length, Option, Some, None}
use Rattle.keybytes.specs.declared.rid.Rid.{Rid}
use Rattle.scan_range.specs.Ranges.{RangesValue, after_advance, is_done}
use Rattle.visibility.specs.Visible.{is_visible_in}
use Rattle.picture.specs.declared.timeline_svg.mark.Side.{Side}
use Rattle.picture.specs.declared.timeline_svg.mark.Side.TheVariants.{Ahead, Behind, NoBuild}

-- behind the scan is what the build has to hear of, ahead of it what its scan will meet
abbrev pub side_in : RangesValue → Rid → Side
side_in ranges rid = if is_visible_in ranges rid then Behind else Ahead

-- the same, where a build runs
abbrev pub side_seen : Option RangesValue → Rid → Side
side_seen None rid = NoBuild
side_seen (Some ranges) rid = side_in ranges rid

-- the ranges once the next page of one of them is copied, if it has one
abbrev pub after_copy : RangesValue → ℕ → RangesValue
after_copy ranges range = if nat_le (length ranges.ends) range || is_done ranges range then ranges else after_advance ranges range
