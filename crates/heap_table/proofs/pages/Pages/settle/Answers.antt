use Rattle.std.proofs.Common.{◌<◌, length, subst, sym, arith}
use Rattle.heap_table.specs.PageLists.{PagesValue}
use Rattle.heap_table.proofs.RoomsOfPages.{rooms_set}
use Rattle.heap_table.proofs.pages.Pages.settle.Goals as goal

pub invariant_of-self : goal.invariant_of-self
invariant_of-self c =
    let below = subst (λ (v : PagesValue). c.args.rid.page < length v.pages) (sym c.self.view_is) c.requires.page in
    record {
      some = c.self.invariant.some;
      follow = rw c.set.ensures.rooms (rooms_set c.self.inside.pages.items c.self.inside.rooms.rooms c.args.rid.page c.room_of.result c.settle.new.self
          c.self.invariant.follow below c.room_of.ensures);
      pages_room = c.self.invariant.pages_room;
      rooms_room = omega (arith, c.set.ensures.spare, c.self.invariant.rooms_room);
    }
