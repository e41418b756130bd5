use Rattle.btree.proofs.LeafGrown.{grown_same, grown_put}
use Rattle.btree.proofs.growing.insert_into_leaf.Goals as goal

pub returns-in_default-clause-grown : goal.returns-in_default-clause-grown
returns-in_default-clause-grown c = grown_same _ _ c.pairs-len.ensures.rise c.in_default.ensures.there.there

pub returns-then-len-lt-LEAF_MAX-clause-grown : goal.returns-then-len-lt-LEAF_MAX-clause-grown
returns-then-len-lt-LEAF_MAX-clause-grown c = grown_put _ _ _ c.pairs-len.ensures.rise c.insert_at.ensures

pub returns-in_default-clause-rising : goal.returns-in_default-clause-rising
returns-in_default-clause-rising c = (returns-in_default-clause-grown c).rising

pub returns-then-len-lt-LEAF_MAX-clause-rising : goal.returns-then-len-lt-LEAF_MAX-clause-rising
returns-then-len-lt-LEAF_MAX-clause-rising c = (returns-then-len-lt-LEAF_MAX-clause-grown c).rising
