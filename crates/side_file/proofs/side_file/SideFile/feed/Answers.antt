use Rattle.std.proofs.Common.{arith, ap, subst, ◌≡◌, ◌≤◌, ◌+◌, length}
use Rattle.side_file.specs.SideFileValue.{SideFileValue}
use Rattle.side_file.specs.Changes.{feed_most}
use Rattle.side_file.proofs.PortionLemmas.{portions_few}
use Rattle.side_file.proofs.side_file.SideFile.feed.Goals as goal

pub returns-clause-first : goal.returns-clause-first
returns-clause-first c =
    let few = portions_few _ c.self.invariant.some in
    subst (λ (side : SideFileValue). feed_most c.args.k side + length side.end.sent ≤ side.end.capacity → c.min-count.result ≡ feed_most c.args.k side)
    c.self.view_is
    (λ unused. omega (
      arith,
      unused,
      few,
      c.self.inside.producer.counts,
      c.slots.ensures.looked.2,
      c.slots.ensures.value,
      c.min-most.ensures,
      c.min-count.ensures,
      c.left.ensures,
      ap (λ (side : SideFileValue). length side.left) c.self.view_is,
      c.self.invariant.ring,
    ))
