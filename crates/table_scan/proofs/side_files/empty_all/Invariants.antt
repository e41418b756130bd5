use Rattle.std.proofs.Common.{◌≡◌, map, length}
use Rattle.std.specs.List.{AllZip}
use Rattle.side_file.specs.Ends.{PutEndLooked}
use Rattle.side_file.specs.SideFileValue.{SideFileValue}
use Rattle.table_scan.specs.SideFiles.{side_rings, taken_rings, put_ends}
use Rattle.table_scan.proofs.Emptied.{AreEmptied}
use Rattle.table_scan.proofs.side_files.empty_all.Given as goal

abbrev pub invariant-loop-index : goal.invariant-loop-index
invariant-loop-index l = record {
  emptied : AreEmptied l.index l.sides.items l.ends.items;
  room : map (λ (side : SideFileValue). side.room) l.sides.items ≡ map (λ (side : SideFileValue). side.room) l.initial.sides.items;
  rings : side_rings (put_ends l.sides.items) ≡ side_rings (put_ends l.initial.sides.items);
  looked : AllZip PutEndLooked (put_ends l.initial.sides.items) (put_ends l.sides.items);
  other_rings : side_rings (put_ends l.sides.items) ≡ taken_rings l.ends.items;
  many : length l.sides.items ≡ l.index-end;
}
