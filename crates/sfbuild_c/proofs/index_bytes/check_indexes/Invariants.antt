use Rattle.std.proofs.Common.{List, length}
use Rattle.keybytes.specs.Keys.{KeySpecValue}
use Rattle.sfbuild_c.proofs.IndexLists.{HasRead}
use Rattle.sfbuild_c.proofs.index_bytes.check_indexes.Given as goal

abbrev pub invariant-loop-rest : goal.invariant-loop-rest
invariant-loop-rest l = (specs : List KeySpecValue) × HasRead l.schema l.bytes specs l.rest

abbrev pub decreases-loop-rest : goal.decreases-loop-rest
decreases-loop-rest l = length l.rest
