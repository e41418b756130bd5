use Rattle.std.proofs.Common.{map, refl, arith}
use Rattle.page_workers.specs.SpoolValue.{spool_value}
use Rattle.table_scan.specs.SideFiles.{HasLookedAtSide, SeesSide}
use Rattle.building.proofs.SideEnds.{eight_ends, ring_of, side_end_kept, side_is_seen, take_ends_stay}
use Rattle.building.proofs.beside.Building.look_at_side.Goals as goal

pub beside-count-requires : goal.beside-count-requires
beside-count-requires g c =
    ring_of _ _ _ c.self.inside.side_ends.items c.args.index c.index_mut.result.now c.args.side.now.end.ring c.self.invariant.0 c.requires.there
    c.index_mut.ensures.value c.requires.ring

pub invariant_of-self : goal.invariant_of-self
invariant_of-self g c = (
  take_ends_stay _ _ _ c.self.inside.side_ends.items c.args.index c.index_mut.result.now c.beside-count.new.end c.self.invariant.0 c.index_mut.ensures.value
      c.beside-count.ensures.end.ring,
  c.self.invariant.1,
  c.self.invariant.2,
  c.self.invariant.3,
  c.self.invariant.4,
  c.self.invariant.5,
  side_end_kept c.self.inside.workers.items (map (spool_value g.S.Spool.runs g.S.Spool.open_run g.S.Spool.stake) c.self.inside.spools.items) c.self.inside.work
      c.self.inside.side_ends.items c.args.index c.index_mut.result.now c.beside-count.new.end c.index_mut.ensures.value
      (omega (arith, eight_ends _ _ _ c.self.inside.side_ends.items c.self.invariant.0, c.requires.there)) c.beside-count.ensures.end.received c.self.invariant.6,
  c.self.invariant.7,
)

pub returns-clause-sees : goal.returns-clause-sees
returns-clause-sees g c =
    let ends = c.self.inside.side_ends.items in
    let eight = eight_ends _ _ _ ends c.self.invariant.0 in
    let looks = c.beside-count.ensures.looks in
    let end = c.index_mut.result.now in
    let after = c.beside-count.new.end in
    let put = c.args.side.now.end in
    let new_put = c.beside-count.new.self.end in
    let looked : HasLookedAtSide put end new_put after =
    record {
      put_end = record { ring = looks.ring; capacity = looks.capacity; sent = looks.sent; free = looks.free };
      ring = c.beside-count.ensures.end.ring;
      received = c.beside-count.ensures.end.received;
    } in
    let sees : SeesSide c.beside-count.result new_put after =
    record {
      in_order = c.beside-count.ensures.in_order;
      counted = c.beside-count.ensures.value;
      free = omega (arith, c.beside-count.ensures.free, c.laws.ensures.capacity);
    } in
    side_is_seen c.args.index c.beside-count.result c.args.self.now _ ends end after put new_put c.self.view_is refl c.index_mut.ensures.value
    (omega (arith, eight, c.requires.there)) looked sees
