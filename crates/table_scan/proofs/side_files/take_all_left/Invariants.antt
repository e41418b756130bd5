use Rattle.std.proofs.Common.{◌≡◌, ◌+◌, ◌≤◌, length, vec_len, vec_capacity}
use Rattle.table_scan.specs.SideFiles.{put_ends}
use Rattle.table_scan.proofs.Emptied.{AreTaken}
use Rattle.table_scan.proofs.side_files.take_all_left.Given as goal

abbrev pub invariant-loop-index : goal.invariant-loop-index
invariant-loop-index l = record {
  taken : vec_len l.initial.waste + length l.initial.sides.items ≤ vec_capacity l.initial.waste → AreTaken l.index l.sides.items;
  ends : put_ends l.sides.items ≡ put_ends l.initial.sides.items;
  many : length l.sides.items ≡ l.index-end;
  count : vec_len l.waste ≤ vec_len l.initial.waste + l.index;
  room : vec_capacity l.waste ≡ vec_capacity l.initial.waste;
}
