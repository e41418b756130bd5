use Rattle.std.proofs.Common.{◌≡◌, ◌+◌, ◌++◌, ◌≤◌, drop, length, vec_capacity}
use Rattle.std.specs.Prelude.{map}
use Rattle.building.specs.Verdicts.{its_verdict}
use Rattle.build_events.specs.Verdicts.{outcomes}
use Rattle.live_table.proofs.live.switch.verdicts_from.Given as goal

abbrev pub invariant-loop-index : goal.invariant-loop-index
invariant-loop-index l = record {
  made : l.verdicts.items ++ outcomes l.number (map its_verdict (drop l.index-index l.indexes)) ≡ outcomes l.first (map its_verdict l.indexes);
  some : length l.verdicts.items ≤ l.index-index;
  room : length l.indexes ≤ vec_capacity l.verdicts;
  numbered : l.number ≤ l.first + l.index-index;
}
