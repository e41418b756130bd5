use Rattle.std.proofs.Common.{◌≡◌, ◌≤◌, length, map, take, vec_capacity}
use Rattle.table_scan.proofs.table_scan.none_fed.Given as goal

abbrev pub invariant-loop : goal.invariant-loop
invariant-loop l = record {
  made : l.fed.items ≡ map (λ spec. 0) (take l.index l.specs);
  room : length l.specs ≤ vec_capacity l.fed;
}
