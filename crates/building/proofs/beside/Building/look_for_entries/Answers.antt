use Rattle.std.proofs.Common.{map, refl, arith}
use Rattle.page_workers.specs.SpoolValue.{spool_value}
use Rattle.building.proofs.SideEnds.{eight_ends, has_seen_entries, side_end_kept, take_ends_stay}
use Rattle.building.proofs.beside.Building.look_for_entries.Goals as goal

pub invariant_of-self : goal.invariant_of-self
invariant_of-self g c = (
  take_ends_stay _ _ _ c.self.inside.side_ends.items c.args.index c.index_mut.result.now c.look.new.self c.self.invariant.0 c.index_mut.ensures.value
      c.look.ensures.looked.ring,
  c.self.invariant.1,
  c.self.invariant.2,
  c.self.invariant.3,
  c.self.invariant.4,
  c.self.invariant.5,
  side_end_kept c.self.inside.workers.items (map (spool_value g.S.Spool.runs g.S.Spool.open_run g.S.Spool.stake) c.self.inside.spools.items) c.self.inside.work
      c.self.inside.side_ends.items c.args.index c.index_mut.result.now c.look.new.self c.index_mut.ensures.value
      (omega (arith, eight_ends _ _ _ c.self.inside.side_ends.items c.self.invariant.0, c.requires)) c.look.ensures.looked.received c.self.invariant.6,
  c.self.invariant.7,
)

pub returns : goal.returns
returns g c =
    let ends = c.self.inside.side_ends.items in
    let eight = eight_ends _ _ _ ends c.self.invariant.0 in
    has_seen_entries c.args.index c.look.result c.args.self.now _ ends c.index_mut.result.now c.look.new.self c.self.view_is refl c.index_mut.ensures.value
    (omega (arith, eight, c.requires)) c.look.ensures.looked c.look.ensures.value
