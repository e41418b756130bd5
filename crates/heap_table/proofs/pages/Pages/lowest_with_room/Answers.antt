use Rattle.std.proofs.Common.{◌∙◌, ap}
use Rattle.std.specs.Prelude.{position}
use Rattle.heap_table.specs.HeapState.{takes}
use Rattle.heap_table.specs.PageLists.{PagesValue}
use Rattle.heap_table.proofs.RoomsOfPages.{lowest_room}
use Rattle.heap_table.proofs.pages.Pages.lowest_with_room.Goals as goal

pub returns : goal.returns
returns c =
    c.lowest.ensures ∙ (lowest_room c.self.inside.pages.items c.self.inside.rooms.rooms c.args.len c.self.invariant.follow c.requires.0
    ∙ ap (λ (v : PagesValue). position (takes c.args.len) v.pages) c.self.view_is)
