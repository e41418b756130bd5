use Rattle.std.proofs.Common.{◌≡◌, is_some, length}
use Rattle.keybytes.specs.Pairs.{set_of}
use Rattle.btree.specs.Changes.{changed}
use Rattle.catch_up.specs.Built.{Tallies}
use Rattle.catch_up.proofs.batch.make_all.Given as goal

abbrev pub invariant-loop-changes : goal.invariant-loop-changes
invariant-loop-changes g l = record {
  tallies : Tallies l.tally (set_of l.tree.pairs);
  kept : is_some l.tally ≡ is_some l.initial.tally;
  made : changed l.changes.items (set_of l.tree.pairs) ≡ changed l.initial.changes.items (set_of l.initial.tree.pairs);
}

abbrev pub decreases-loop-changes : goal.decreases-loop-changes
decreases-loop-changes g l = length l.changes.items
