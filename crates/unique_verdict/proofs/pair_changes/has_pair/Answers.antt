use Rattle.std.proofs.Common.{sym, ◌∙◌}
use Rattle.btree.proofs.Sets.{has_is}
use Rattle.unique_verdict.proofs.pair_changes.has_pair.Goals as goal

pub returns : goal.returns
returns c = c.contains.ensures ∙ sym (has_is _ c.args.tree.now.pairs)
