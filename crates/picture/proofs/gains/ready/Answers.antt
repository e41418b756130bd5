use Rattle.replay.proofs.KeyedPairs.{keyed_by}
use Rattle.picture.proofs.gains.ready.Goals as goal

pub add_pairs-requires : goal.add_pairs-requires
add_pairs-requires g c = keyed_by _ _ _ _ c.spec.ensures c.tree-2.ensures.pairs c.tree-2.ensures.keys
