use Rattle.std.proofs.Common.{arith}
use Rattle.heap_table.proofs.RoomsOfPages.{rooms_pushed}
use Rattle.heap_table.proofs.pages.Pages.add_page.Goals as goal

pub invariant_of-self : goal.invariant_of-self
invariant_of-self c = record {
  some = c.self.invariant.some;
  follow = rw (c.push_reserved.ensures.items, c.push.ensures.rooms) (rooms_pushed _ _ c.room_of.result c.in-Ok.page c.self.invariant.follow c.room_of.ensures);
  pages_room = omega (arith, c.push_reserved.ensures.room, c.self.invariant.pages_room);
  rooms_room = omega (arith, c.push.ensures.spare, c.self.invariant.rooms_room);
}
