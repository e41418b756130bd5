use Rattle.std.proofs.Common.{suc, ◌-◌, vec_len}
use Rattle.btree.specs.Splits.{AllBlank}
use Rattle.btree.proofs.spare.fill_fans.Given as goal

abbrev pub invariant-loop-alloc : goal.invariant-loop-alloc
invariant-loop-alloc l = AllBlank l.fans.items

abbrev pub decreases-loop-alloc : goal.decreases-loop-alloc
decreases-loop-alloc l = suc l.height - vec_len l.fans
