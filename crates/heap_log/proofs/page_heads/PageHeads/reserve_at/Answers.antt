use Rattle.std.proofs.Common.{◌<◌, List, length, set, arith, subst}
use Rattle.std.proofs.lemmas.Result.{on_ok_weaker}
use Rattle.heap_log.specs.declared.rid_head.RidHead.{RidHead}
use Rattle.heap_log.specs.PageHeads.{IsReserved}
use Rattle.heap_log.proofs.Paged.{page_reserved}
use Rattle.heap_log.proofs.page_heads.PageHeads.reserve_at.Goals as goal

pub returns-clause-ok : goal.returns-clause-ok
returns-clause-ok c =
    let pages = c.self.inside.pages.items in
    let new = c.reserve.new.self in
    let inside : c.args.rid.page < length pages = omega (arith, c.len.ensures.value) in
    on_ok_weaker c.reserve.result (λ more. subst (λ (p : List (List RidHead)). IsReserved c.args.rid p (set pages c.args.rid.page new)) c.self.view_is
    (page_reserved pages c.index_mut-slots.result.now new c.args.rid inside c.index_mut-slots.ensures.value more)) c.reserve.ensures.ok
