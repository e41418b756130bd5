use Rattle.std.proofs.Common.{◌∙◌, arith, sym, ap}
use Rattle.std.specs.Prelude.{position, nat_le}
use Rattle.std.proofs.lemmas.List.{get_or_read}
use Rattle.heap_table.specs.Rooms.{RoomsValue}
use Rattle.heap_table.proofs.Tournament.{none_in_root, first_page}
use Rattle.heap_table.proofs.room_tree.RoomTree.lowest.Goals as goal

pub returns-then-index-len : goal.returns-then-index-len
returns-then-index-len c =
    let r = c.self.invariant in
    let root = get_or_read c.self.inside.nodes.items 1 c.index.result.now (omega (arith, c.if-self-eq0.false, r.counted, r.long)) c.index.ensures 0 in
    none_in_root r c.args.len (omega (arith, c.if-self-eq0.false)) (omega (arith, root, c.if-index-len.true))
    ∙ ap (λ (rooms : RoomsValue). position (λ room. nat_le c.args.len room) rooms.rooms) c.self.view_is

pub returns : goal.returns
returns c =
    let r = c.self.invariant in
    let full = r.full (omega (arith, c.if-self-eq0.false, r.counted)) in
    first_page r c.args.len c.first_leaf.result c.requires (rw (sym c.deref.ensures.value, full) c.first_leaf.ensures)
    ∙ ap (λ (rooms : RoomsValue). position (λ room. nat_le c.args.len room) rooms.rooms) c.self.view_is
