use Rattle.btree.proofs.Leaving.{from_least}
use Rattle.btree.proofs.tree.Tree.iter.Goals as goal

pub returns : goal.returns
returns c = cc (c.from.ensures.pairs, c.new-least.ensures, from_least c.args.self.now.pairs)
