-- RIDs: whether two are the same, and their order.
use Rattle.std.specs.Prelude.{◌≡◌, ◌&&◌, ◌==◌, nat_eq, Bool}
use Rattle.std.specs.declared.cmp.Ordering.{Ordering}
use Rattle.std.specs.Cmp.{IsTotalOrder, then_total, on_total, nat_cmp_total, both_tied, unsigned_ties}
use Rattle.std.specs.Ordering.{nat_cmp, then_cmp, on, eq_by_cmp}
use Rattle.keybytes.specs.declared.rid.Rid.{Rid}

-- whether two RIDs are the same
abbrev pub same_rid : Rid → Rid → Bool
same_rid a b = (a.page == b.page) && (a.slot == b.slot)

-- by page, then by slot
abbrev pub rid_cmp : Rid → Rid → Ordering
rid_cmp = then_cmp (on (λ rid. rid.page) nat_cmp) (on (λ rid. rid.slot) nat_cmp)

-- the laws that an order owes
pub rid_cmp-total : IsTotalOrder rid_cmp
rid_cmp-total = then_total (on_total (λ rid. rid.page) nat_cmp_total) (on_total (λ rid. rid.slot) nat_cmp_total)

-- two RIDs tie where their pages and their slots are the same
pub rid_cmp-ties : (a b : Rid) → (nat_eq a.page b.page && nat_eq a.slot b.slot) ≡ eq_by_cmp rid_cmp a b
rid_cmp-ties a b = both_tied _ _ _ _ (unsigned_ties a.page b.page) (unsigned_ties a.slot b.slot)
