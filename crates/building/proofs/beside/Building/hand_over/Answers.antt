use Rattle.std.proofs.Common.{◌≡◌, List, All, length, map, ap, subst, sym, arith}
use Rattle.std.proofs.lemmas.List.{length-map}
use Rattle.page_workers.specs.SpoolValue.{spool_value}
use Rattle.page_workers.specs.WorkerValue.{WorkerValue}
use Rattle.building.specs.Keeping.{HasItsRing, KeepsLaws}
use Rattle.building.proofs.BroughtHome.{ends_kept, none_away}
use Rattle.building.proofs.HandedKept.{handed_over_kept}
use Rattle.building.proofs.Numbered.{numbered_handed, their_rings}
use Rattle.building.proofs.beside.Building.hand_over.Goals as goal

pub laws_of-requires : goal.laws_of-requires
laws_of-requires g c =
    subst (All (HasItsRing g.T.TableRings.pages)) (sym c.deref.ensures.value) (their_rings _ _ c.self.inside.workers.items c.self.inside.idle.items _ c.self.invariant.0 c.self.invariant.7)

pub invariant_of-self : goal.invariant_of-self
invariant_of-self g c =
    let spool = g.S.Spool in
    let value = spool_value spool.runs spool.open_run spool.stake in
    let old : List WorkerValue = c.self.inside.workers.items in
    let new : List WorkerValue = c.bring_home.new.workers.items in
    let spools = c.bring_home.new.spools in
    let is = c.bring_home.ensures.workers in
    let all = none_away old new (map value spools.items) is in
    let seen : c.deref.result.now ≡ old = c.deref.ensures.value in
    let kept = handed_over_kept c.args.self.now _ c.in-Some.work _ c.self.view_is c.in-Some.is c.work.view_is c.requires
    (subst (All (KeepsLaws g.T.TableRings.pages)) seen c.laws_of.ensures)
    c.self.invariant.6 new (map value spools.items) is c.bring_home.ensures.spools in (
      ends_kept old new _ _ c.self.inside.idle.items _ is c.self.invariant.0,
      c.self.invariant.1,
      omega (arith, ap length all, length-map spools.items value, spools.ok),
      λ none. absurd (cc),
      λ given. let none = c.self.invariant.4 given in let some = c.in-Some.is in absurd (cc),
      λ given none. absurd (cc),
      kept,
      numbered_handed old new is c.self.invariant.7,
    )
