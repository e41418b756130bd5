use Rattle.std.proofs.Common.{◌≡◌, ◌++◌, ◌<◌, ◌≤◌, ℕ, length, Some}
use Rattle.std.specs.List.{slice_get}
use Rattle.side_file.specs.SideFileValue.{SideFileValue}
use Rattle.table_scan.specs.Noting.{HaveAppended}
use Rattle.table_scan.specs.SideFiles.{put_ends}
use Rattle.table_scan.proofs.notes.append_each.Given as goal

abbrev pub invariant-loop-change : goal.invariant-loop-change
invariant-loop-change l = record {
  all : l.yielded ++ l.change-iterator.rest.items ≡ l.fn.changes.items;
  counted : l.k ≡ length l.yielded;
  done : HaveAppended l.build l.rid l.yielded l.initial.sides.items l.sides.items;
  ends : put_ends l.sides.items ≡ put_ends l.initial.sides.items;
  room : (k : ℕ) (side : SideFileValue) → l.k ≤ k → k < length l.fn.changes.items → slice_get l.sides.items k ≡ Some side → 2 ≤ side.room;
}
