use Rattle.std.proofs.Common.{length}
use Rattle.sfbuild_c.proofs.IndexLists.{HasRead}
use Rattle.sfbuild_c.proofs.index_bytes.make_indexes.Given as goal

abbrev pub invariant-loop-rest : goal.invariant-loop-rest
invariant-loop-rest l = HasRead l.schema l.bytes l.specs.items l.rest

abbrev pub decreases-loop-rest : goal.decreases-loop-rest
decreases-loop-rest l = length l.rest
