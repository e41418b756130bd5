use Rattle.std.proofs.Common.{ap, ◌∙◌}
use Rattle.heap_table.specs.PageLists.{PagesValue}
use Rattle.heap_table.proofs.PageLists.{insert_opened}
use Rattle.heap_table.proofs.pages.Pages.insert.Goals as goal

pub returns-clause-pages : goal.returns-clause-pages
returns-clause-pages c =
    insert_opened c.args.self.now.pages c.self.inside.pages.items c.args.self.now.limit c.args.rid c.args.bytes.now
    c.index_mut-page.result.now c.insert.new.self c.in-Ok._slot c.requires.page
    (ap (λ (v : PagesValue). v.pages) c.self.view_is ∙ c.open_page.ensures.pages) c.index_mut-page.ensures.value
    c.requires.room c.in-Ok.ensures.slot c.in-Ok.ensures.inserted
