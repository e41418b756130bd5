use Rattle.std.proofs.Common.{subst, sym, arith}
use Rattle.slotted_page.specs.Slot.{IsRow}
use Rattle.heap_table.specs.PageLists.{PagesValue, slot_in}
use Rattle.heap_table.proofs.RoomsOfPages.{rooms_set, row_inside}
use Rattle.heap_table.proofs.pages.Pages.update.Goals as goal

pub invariant_of-self : goal.invariant_of-self
invariant_of-self c =
    let below = row_inside c.self.inside.pages.items c.args.rid
    (subst (λ (v : PagesValue). IsRow (slot_in v.pages c.args.rid)) (sym c.self.view_is) c.requires.is_row) in
    record {
      some = c.self.invariant.some;
      follow = rw c.set.ensures.rooms (rooms_set c.self.inside.pages.items c.self.inside.rooms.rooms c.args.rid.page c.room_of.result c.update.new.self
          c.self.invariant.follow below c.room_of.ensures);
      pages_room = c.self.invariant.pages_room;
      rooms_room = omega (arith, c.set.ensures.spare, c.self.invariant.rooms_room);
    }
