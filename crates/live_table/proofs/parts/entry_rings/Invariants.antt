use Rattle.std.proofs.Common.{◌≡◌, ◌≤◌, [], All, length, vec_capacity}
use Rattle.table_scan.specs.SideFiles.{side_rings, taken_rings, put_ends}
use Rattle.live_table.proofs.parts.entry_rings.Given as goal

abbrev pub invariant-loop : goal.invariant-loop
invariant-loop l = record {
  rings : side_rings (put_ends l.sides.items) ≡ taken_rings l.ends.items;
  sides : length l.sides.items ≡ l.counter;
  ends : length l.ends.items ≡ l.counter;
  no_entries : All (λ end. end.sent ≡ []) (put_ends l.sides.items);
  room : 8 ≤ vec_capacity l.sides;
  more_room : 8 ≤ vec_capacity l.ends;
}
