use Rattle.std.proofs.Common.{◌≡◌, ◌≤◌, length, vec_capacity}
use Rattle.table_scan.specs.Noting.{AreChangesOf}
use Rattle.table_scan.proofs.notes.changes_of.Given as goal

abbrev pub invariant-loop-index : goal.invariant-loop-index
invariant-loop-index l = record {
  many : length l.changes.items ≡ l.index;
  are : AreChangesOf l.build l.ready l.changes.items;
  room : l.count ≤ vec_capacity l.changes;
}
