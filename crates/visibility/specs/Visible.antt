-- Which changes a build has to hear of, by how far its ranges are.
use Rattle.std.specs.Prelude.{Bool, ◌||◌, nat_le}
use Rattle.keybytes.specs.declared.rid.Rid.{Rid}
use Rattle.scan_range.specs.Ranges.{RangesValue, is_passed}

-- whether what changes at the RID is visible: its page is newer than the build, or was passed
abbrev pub is_visible_in : RangesValue → Rid → Bool
is_visible_in ranges rid = nat_le ranges.pages rid.page || is_passed ranges rid.page
