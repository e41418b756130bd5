use Rattle.std.proofs.Common.{◌∙◌, ◌<◌, length, ap, arith}
use Rattle.heap_log.specs.Standing.{live_at}
use Rattle.heap_table.specs.HeapValue.{HeapValue}
use Rattle.heap_table.specs.Pages.{rid_at}
use Rattle.heap_table.proofs.KeptFacts.{kept_count, kept_image, kept_now, page_shows}
use Rattle.heap_table.proofs.heap.Heap.copy_page.Goals as goal

pub page-requires : goal.page-requires
page-requires c =
    let kept = kept_now _ _ _ c.self.view_is c.self.invariant in
    omega (arith, c.requires, kept_count _ _ kept)

pub take_copy-requires : goal.take_copy-requires
take_copy-requires c =
    let kept = kept_now _ _ _ c.self.view_is c.self.invariant in
    let below : c.args.page < length c.self.inside.pages.pages = omega (arith, c.requires, kept_count _ _ kept) in (
      λ slot. live_at c.self.inside.log.records (rid_at c.args.page slot),
      λ slot. page_shows _ _ c.args.page slot c.page.result.now c.self.invariant.kept below (c.page.ensures c.page.result.now),
    )

pub returns-clause-copy : goal.returns-clause-copy
returns-clause-copy c =
    let kept = kept_now _ _ _ c.self.view_is c.self.invariant in
    kept_image _ c.self.inside.pages c.args.page c.page.result.now c.take_copy.new.self kept c.requires (c.page.ensures c.page.result.now)
    c.take_copy.ensures.page
    c.take_copy.ensures.slots
    (c.take_copy.ensures.schema ∙ ap (λ (h : HeapValue). h.state.schema) c.self.view_is)
