use Rattle.std.proofs.Common.{◌≡◌, length, map}
use Rattle.side_file.specs.SideFileValue.{SideFileValue}
use Rattle.table_scan.specs.SideFiles.{put_ends}
use Rattle.table_scan.proofs.Emptied.{AreForgotten}
use Rattle.table_scan.proofs.side_files.reset_all.Given as goal

abbrev pub invariant-loop-index : goal.invariant-loop-index
invariant-loop-index l = record {
  forgotten : AreForgotten l.index l.sides.items;
  ends : put_ends l.sides.items ≡ put_ends l.initial.sides.items;
  room : map (λ (side : SideFileValue). side.room) l.sides.items ≡ map (λ (side : SideFileValue). side.room) l.initial.sides.items;
  many : length l.sides.items ≡ l.index-end;
}
