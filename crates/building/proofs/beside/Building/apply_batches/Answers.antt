use Rattle.std.proofs.Common.{List, Option, Some, map, refl, sym, ap, ◌∙◌, subst}
use Rattle.page_workers.specs.SpoolValue.{SpoolValue, spool_value}
use Rattle.building.specs.BuildingValue.{WorkValue}
use Rattle.building.specs.Keeping.{KeepsWork}
use Rattle.building.proofs.BatchesKept.{batches_kept, batches_stopped, has_applied, take_ends_same}
use Rattle.building.proofs.beside.Building.apply_batches.Goals as goal

pub invariant_of-self : goal.invariant_of-self
invariant_of-self g c = (
  take_ends_same _ _ _ c.self.inside.side_ends.items c.apply_all.new.ends.items c.self.invariant.0 c.apply_all.ensures.rings,
  c.self.invariant.1,
  c.self.invariant.2,
  λ none. absurd (cc),
  λ given. let none = c.self.invariant.4 given in let some = c.in-Some.is in absurd (cc),
  λ given none. absurd (cc),
  λ fine. absurd (cc),
  c.self.invariant.7,
)

pub returns-in-Err-clause-stopped : goal.returns-in-Err-clause-stopped
returns-in-Err-clause-stopped g c =
    batches_stopped c.args.self.now _ c.in-Some.work _ c.self.inside.side_ends.items c.apply_all.new.ends.items c.apply_all.new.indexes.items c.self.view_is
    c.in-Some.is c.work.view_is refl c.in-Err.refused c.apply_all.ensures.many c.apply_all.ensures.rings

pub invariant_of-self-2 : goal.invariant_of-self-2
invariant_of-self-2 g c =
    let spools : List SpoolValue = map (spool_value g.S.Spool.runs g.S.Spool.open_run g.S.Spool.stake) c.self.inside.spools.items in (
      take_ends_same _ _ _ c.self.inside.side_ends.items c.apply_all.new.ends.items c.self.invariant.0 c.apply_all.ensures.rings,
      c.self.invariant.1,
      c.self.invariant.2,
      λ none. absurd (cc),
      λ given. let none = c.self.invariant.4 given in let some = c.in-Some.is in absurd (cc),
      λ given none. absurd (cc),
      batches_kept c.self.inside.workers.items spools _ c.self.inside.side_ends.items c.apply_all.new.ends.items c.in-Ok.count c.apply_all.new.indexes.items
          c.in-Ok.ensures.applied
          (subst (λ (o : Option WorkValue). KeepsWork c.self.inside.workers.items c.self.inside.side_ends.items spools o)
          (c.in-Some.is ∙ ap Some (sym c.work.view_is)) c.self.invariant.6),
      c.self.invariant.7,
    )

pub returns-clause-applied : goal.returns-clause-applied
returns-clause-applied g c =
    has_applied c.args.self.now _ c.in-Some.work _ c.self.inside.side_ends.items c.apply_all.new.ends.items c.apply_all.new.indexes.items c.self.view_is
    c.in-Some.is c.work.view_is refl c.in-Ok.count c.in-Ok.ensures.applied
