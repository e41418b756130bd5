use Rattle.std.proofs.Common.{List, Option, None, subst}
use Rattle.keybytes.specs.declared.cell.Cell.{Cell}
use Rattle.heap_table.specs.Ready.{CanRestore}
use Rattle.heap_table.proofs.PageLists.{held_stays}
use Rattle.heap_table.proofs.changes.undo_slot.Goals as goal

pub returns-in-None-None-clause-pages : goal.returns-in-None-None-clause-pages
returns-in-None-None-clause-pages c =
    let pages = c.args.pages.now in
    let rid = c.args.ready.now.rid in
    let held : CanRestore pages rid None None =
    subst (λ (new : Option (List Cell)). CanRestore pages rid None new) c.in-None-None.is-1
    (subst (λ (old : Option (List Cell)). CanRestore pages rid old c.args.ready.now.new) c.in-None-None.is-0 c.requires.room) in
    rw c.in-None-None.is-1 (held_stays pages.pages pages.limit rid held)
