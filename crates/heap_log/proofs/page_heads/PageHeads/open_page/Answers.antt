use Rattle.std.proofs.Common.{◌≡◌, ◌∙◌, ◌+◌, ◌-◌, ◌++◌, [], ◌∷◌, ℕ, List, length, replicate, ap, arith, subst}
use Rattle.heap_log.specs.declared.rid_head.RidHead.{RidHead}
use Rattle.heap_log.specs.PageHeads.{no_head, IsReserved}
use Rattle.heap_log.proofs.Paged.{pages_reserved}
use Rattle.heap_log.proofs.page_heads.PageHeads.open_page.Goals as goal

pub returns-clause-ok : goal.returns-clause-ok
returns-clause-ok c =
    let rid = c.args.rid in
    let old = c.self.inside.pages.items in
    let new = c.push_reserved.new.self.items in
    let slots = c.reserve.new.self in
    let below = rid.page - c.len.result in
    let more : new ≡ old ++ replicate below [] ++ slots ∷ [] =
    c.push_reserved.ensures.items
    ∙ ap (λ (list : List (List RidHead)). list ++ slots ∷ [])
    (c.push_empty.ensures.items ∙ ap (λ (list : List (List RidHead)). list ++ replicate below []) c.in_ok-reserve-2.ensures.items) in
    let made : slots ≡ replicate (rid.slot + 1) no_head =
    let whole : rid.slot + 1 - 0 ≡ rid.slot + 1 = omega arith in
    c.in_ok-reserve.ensures.ok ∙ ap (λ (heads : List RidHead). heads ++ replicate (rid.slot + 1 - length heads) no_head) c.new-slots.ensures
    ∙ ap (λ (n : ℕ). replicate n no_head) whole in
    let is : rid.page ≡ length old + below = omega (arith, c.len.ensures.value, ap length c.self.view_is, c.requires) in
    subst (λ (p : List (List RidHead)). IsReserved rid p new) c.self.view_is (pages_reserved old new slots rid below is more made)
