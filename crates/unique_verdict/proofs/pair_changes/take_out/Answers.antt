use Rattle.unique_verdict.proofs.TreeSets.{without_by_sets}
use Rattle.unique_verdict.proofs.pair_changes.take_out.Goals as goal

pub returns : goal.returns
returns c = without_by_sets _ c.args.tree.now.pairs _ c.laws.ensures c.laws-2.ensures c.remove.ensures.removed
