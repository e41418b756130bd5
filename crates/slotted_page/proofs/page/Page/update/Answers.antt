use Rattle.std.proofs.Common.{◌≡◌, ℕ, length, ap, sym, arith}
use Rattle.std.specs.Prelude.{max}
use Rattle.std.proofs.lemmas.Bool.{leb-true}
use Rattle.slotted_page.specs.Slot.{held, put, total_reserve}
use Rattle.slotted_page.specs.Page.{grown_reserve, taken_bytes}
use Rattle.slotted_page.proofs.PageValues.{put_total, row_within}
use Rattle.slotted_page.proofs.page.Page.update.Goals as goal

pub put_row-requires-clause-room : goal.put_row-requires-clause-room
put_row-requires-clause-room c =
    let page = c.args.self.now in
    let s = c.args.slot in
    let n = length c.args.bytes.now in
    let after = held (grown_reserve page s n) in
    let t = put_total page.slots s after (row_within page.slots s c.requires.is_row) in
    let m = c.max-grown.ensures in
    let w : max c.reserve.result n ≡ grown_reserve page s n = ap (λ (r : ℕ). max r n) c.reserve.ensures.is in
    let e = leb-true (taken_bytes (length page.slots) (total_reserve (put page.slots s after))) 4096 (sym c.if-not-fits.ensures) in
    omega (arith, e, t, m, w)
