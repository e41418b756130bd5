use Rattle.std.proofs.Common.{arith}
use Rattle.keybytes.specs.declared.pair.Pair.{Pair}
use Rattle.tree_nodes.proofs.Fronts.{front_count-le-length}
use Rattle.btree.proofs.Ordered.{share_to}
use Rattle.btree.proofs.walking.first_share.Goals as goal

pub overflow_add-place : goal.overflow_add-place
overflow_add-place c = omega (arith, c.find-place.ensures, front_count-le-length {X = Pair}, c.requires.fan.between, c.requires.fan.few)

pub returns-then-place-len : goal.returns-then-place-len
returns-then-place-len c =
    share_to _ _ _ _ _ c.in-Some.first.now c.separator.result.now c.requires.order c.requires.some c.requires.within c.in-Some.ensures.lookup c.find-place.ensures
    (omega (arith, c.requires.fan.between)) c.separator.ensures c.count_before.ensures
