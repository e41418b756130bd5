use Rattle.std.proofs.Common.{arith}
use Rattle.heap_table.proofs.Tournament.{height_below}
use Rattle.heap_table.proofs.room_tree.RoomTree.larger.Goals as goal

pub overflow_add-self-inside : goal.overflow_add-self-inside
overflow_add-self-inside c =
    let r = c.self.invariant in
    let full = r.full (omega (arith, c.if-self-eq0.false)) in
    omega (arith, height_below c.self.inside.height, full, r.long)
