use Rattle.std.proofs.Common.{◌≡◌, ℕ, ◌+◌, ◌-◌, ◌∙◌, ap, arith}
use Rattle.std.specs.Prelude.{max}
use Rattle.std.proofs.lemmas.List.Sums.{get_or-le-sum_by}
use Rattle.slotted_page.specs.Slot.{free, held, put, reserve_of, total_reserve}
use Rattle.slotted_page.specs.Page.{grown_reserve}
use Rattle.slotted_page.proofs.PageFields.{page_facts}
use Rattle.slotted_page.proofs.PageValues.{put_total, row_within}
use Rattle.slotted_page.proofs.page.Page.fits.Goals as goal

pub returns : goal.returns
returns c =
    let f = page_facts c.self.invariant c.self.view_is in
    let page = c.args.self.now in
    let s = c.args.slot in
    let lt = row_within page.slots s c.requires.is_row in
    let after = held (grown_reserve page s c.args.len) in
    let t = put_total page.slots s after lt in
    let b = get_or-le-sum_by reserve_of page.slots s free lt in
    let was = c.reserve-reserve.result in
    let w : max was c.args.len ≡ grown_reserve page s c.args.len = ap (λ (r : ℕ). max r c.args.len) c.reserve-reserve.ensures.is in
    let n = c.image_slots-slots.ensures ∙ f.slots_long in
    let e : c.self.inside.reserved - was + c.max.result ≡ total_reserve (put page.slots s after) =
    omega (arith, t, b, w, c.max.ensures, f.total_is, c.reserve-reserve.ensures.is) in
    c.has_room.ensures ∙ cc (n, e)
