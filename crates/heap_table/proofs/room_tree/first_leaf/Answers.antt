use Rattle.std.proofs.Common.{◌+◌, ◌*◌, ◌<◌, length, arith}
use Rattle.std.proofs.lemmas.Nat.{pow_pos}
use Rattle.heap_table.proofs.Tournament.{level_more, level_below, first_left, first_right}
use Rattle.heap_table.proofs.room_tree.first_leaf.Goals as goal
use Rattle.heap_table.proofs.room_tree.first_leaf.Goals.{then-nodes-left, else-nodes-left}

pub overflow_mul-left : goal.overflow_mul-left
overflow_mul-left c = omega (arith, level_below c.loop-level._level c.args.height c.loop-level-test.true)

pub offset_bounds-nodes-left : goal.offset_bounds-nodes-left
offset_bounds-nodes-left c = omega (arith, level_below c.loop-level._level c.args.height c.loop-level-test.true)

pub bounds-nodes-left : goal.bounds-nodes-left
bounds-nodes-left c = omega (arith, level_below c.loop-level._level c.args.height c.loop-level-test.true)

pub loop-level-preserved : goal.loop-level-preserved
loop-level-preserved c =
    let nodes = c.args.nodes.now in
    let node = c.loop-level.node in
    let was = c.loop-level.invariant in
    let some = pow_pos c.loop-level._level in
    let more = level_more c.loop-level._level in
    let inside : 2 * node + 1 < length nodes =
    omega (arith, was.inside, level_below c.loop-level._level c.args.height c.loop-level-test.true, c.requires.long) in
    elim c.if-nodes-left.branch [
      | then-nodes-left w ↦ record {
        inside = omega (arith, w.node-is, was.inside, more);
        first = rw (w.node-is, more) (first_right c.requires.tournament some inside was.first w.if-nodes-left.true);
      }
      | else-nodes-left w ↦ record {
        inside = omega (arith, w.node-is, was.inside, more);
        first = rw (w.node-is, more) (first_left c.requires.tournament some inside was.first w.if-nodes-left.false);
      }
    ]
