use Rattle.std.proofs.Common.{◌≡◌, ◌≤◌, ◌∙◌, ℕ, Option, None, map, sym, ap, subst}
use Rattle.page_workers.specs.SpoolValue.{spool_value}
use Rattle.building.specs.BuildingValue.{BuildingValue, WorkValue}
use Rattle.building.specs.Keeping.{KeepsWork}
use Rattle.building.proofs.Beginning.{ends_emptied, idle_rings}
use Rattle.table_scan.specs.SideFiles.{put_ends}
use Rattle.building.proofs.beside.Building.empty_rings.Goals as goal

pub restart_all-requires : goal.restart_all-requires
restart_all-requires g c =
    let none = c.self.invariant.3 (ap (λ (b : BuildingValue). b.work) c.self.view_is ∙ c.requires.idle) in
    c.requires.pages ∙ sym (idle_rings _ _ c.self.inside.workers.items c.self.inside.idle.items _ c.self.invariant.0 none)

pub empty_all-requires : goal.empty_all-requires
empty_all-requires g c = c.requires.sides ∙ sym c.self.invariant.0.sides_are

pub invariant_of-self : goal.invariant_of-self
invariant_of-self g c =
    let idle : c.self.inside.work ≡ None = ap (λ (b : BuildingValue). b.work) c.self.view_is ∙ c.requires.idle in
    let none = c.self.invariant.3 idle in (
      ends_emptied _ _ c.self.inside.workers.items c.self.inside.idle.items _ c.self.invariant.0 none c.args.build c.restart_all.new.pages.items
          (put_ends c.empty_all.new.sides.items) (c.restart_all.ensures.rings ∙ c.requires.pages) (c.empty_all.ensures.rings ∙ c.requires.sides)
          c.restart_all.new.intakes.items _ c.restart_all.ensures.intakes c.empty_all.ensures.drained,
      subst (λ (room : ℕ). 16 ≤ room) (sym c.restart_all.ensures.room) c.self.invariant.1,
      c.self.invariant.2,
      c.self.invariant.3,
      c.self.invariant.4,
      c.self.invariant.5,
      subst (λ (o : Option WorkValue). KeepsWork c.self.inside.workers.items c.empty_all.new.ends.items
          (map (spool_value g.S.Spool.runs g.S.Spool.open_run g.S.Spool.stake) c.self.inside.spools.items) o) (sym idle) tt,
      c.self.invariant.7,
    )
