use Rattle.std.proofs.Common.{◌∙◌, sym, ap, arith}
use Rattle.std.specs.Prelude.{is_some}
use Rattle.heap_table.proofs.KeptFacts.{kept_count, kept_limit, found_below, found_takes, place_found, kept_now}
use Rattle.heap_table.proofs.heap.Heap.place.Goals as goal

pub unwrap-slot-requires : goal.unwrap-slot-requires
unwrap-slot-requires c =
    ap is_some c.room.ensures ∙ found_takes c.self.inside.pages.pages c.args.len c.in-Some.number c.self.inside.pages.limit (sym c.in-Some.ensures)

pub overflow_cast-result : goal.overflow_cast-result
overflow_cast-result c =
    omega (
      arith,
      found_below c.self.inside.pages.pages c.args.len c.in-Some.number (sym c.in-Some.ensures),
      kept_count _ _ c.self.invariant.kept,
      kept_limit _ _ c.self.invariant.kept,
    )

pub returns-clause-ok : goal.returns-clause-ok
returns-clause-ok c =
    let kept = kept_now _ _ _ c.self.view_is c.self.invariant in
    place_found c.args.self.now.state c.self.inside.pages c.args.len c.in-Some.number c.unwrap-slot.result c.self.inside.pages.limit kept
    (sym c.in-Some.ensures)
    (sym c.room.ensures ∙ c.unwrap-slot.ensures)
