use Rattle.std.proofs.Common.{◌≡◌, ◌<◌, ◌≤◌, ℕ, map, Some}
use Rattle.std.specs.List.{slice_get}
use Rattle.side_file.specs.SideFileValue.{SideFileValue}
use Rattle.table_scan.specs.Noting.{without_room}
use Rattle.table_scan.proofs.notes.reserve_each.Given as goal

abbrev pub invariant-loop-k : goal.invariant-loop-k
invariant-loop-k l = record {
  room : (k : ℕ) (side : SideFileValue) → k < l.k → slice_get l.sides.items k ≡ Some side → 2 ≤ side.room;
  same : map without_room l.sides.items ≡ map without_room l.initial.sides.items;
}
