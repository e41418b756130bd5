use Rattle.std.proofs.Common.{◌∙◌, List, set, ap, sym, subst}
use Rattle.heap_log.specs.declared.rid_head.RidHead.{RidHead}
use Rattle.heap_log.specs.PageHeads.{places_of}
use Rattle.heap_log.specs.Places.{HasPlace}
use Rattle.heap_log.proofs.Paged.{places_kept}
use Rattle.heap_log.proofs.page_heads.PageHeads.set.Goals as goal

pub returns-clause-places : goal.returns-clause-places
returns-clause-places c =
    let pages = c.self.inside.pages.items in
    let place = subst (λ (p : List (List RidHead)). HasPlace c.args.rid (places_of p)) (sym c.self.view_is) c.requires.place in
    ap (λ (slots : List RidHead). places_of (set pages c.args.rid.page slots)) c.set.ensures
    ∙ places_kept pages c.index_mut-slots.result.now c.args.rid c.args.head c.index_mut-slots.ensures.value place ∙ ap places_of c.self.view_is
