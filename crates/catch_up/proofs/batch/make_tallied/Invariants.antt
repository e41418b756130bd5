use Rattle.std.proofs.Common.{◌≡◌, ◌+◌, length}
use Rattle.keybytes.specs.Pairs.{set_of}
use Rattle.btree.specs.Changes.{changed}
use Rattle.unique_verdict.specs.Shared.{shared_of}
use Rattle.catch_up.proofs.batch.make_tallied.Given as goal

abbrev pub invariant-loop : goal.invariant-loop
invariant-loop l = record {
  tallies : l.tally ≡ shared_of (set_of l.tree.pairs);
  made : changed l.changes.items (set_of l.tree.pairs) ≡ changed l.initial.changes.items (set_of l.initial.tree.pairs);
  rest : length l.changes.items + l.counter ≡ length l.initial.changes.items;
}
