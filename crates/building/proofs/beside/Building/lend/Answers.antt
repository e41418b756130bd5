use Rattle.std.proofs.Common.{All, length, ap, refl, subst, sym, arith}
use Rattle.std.proofs.lemmas.List.{length-map, nil_from_length}
use Rattle.page_workers.specs.SpoolValue.{spool_value}
use Rattle.building.specs.Keeping.{HasItsRing, KeepsLaws}
use Rattle.building.proofs.LentBack.{is_lent}
use Rattle.building.proofs.Numbered.{their_rings}
use Rattle.building.proofs.beside.Building.lend.Goals as goal

pub laws_of-requires : goal.laws_of-requires
laws_of-requires g c =
    subst (All (HasItsRing g.T.TableRings.pages)) (sym c.deref.ensures.value) (their_rings _ _ c.self.inside.workers.items c.self.inside.idle.items _ c.self.invariant.0 c.self.invariant.7)

pub invariant_of-rest : goal.invariant_of-rest
invariant_of-rest g c =
    let spool = g.S.Spool in
    let value = spool_value spool.runs spool.open_run spool.stake in
    let laws : All (KeepsLaws g.T.TableRings.pages) c.self.inside.workers.items = subst (All (KeepsLaws g.T.TableRings.pages)) c.deref.ensures.value c.laws_of.ensures in
    let lent = is_lent g.T.TableRings.pages g.T.TableRings.sides c.args.self _ c.in-Some.work c.self.view_is c.in-Some.is c.requires c.self.invariant.6 c.self.invariant.0 laws in (
      lent.stays,
      nil_from_length c.self.inside.spools.items (let long = length-map c.self.inside.spools.items value in omega (arith, long, ap length lent.none)),
      c.self.invariant.1,
      omega (arith, lent.many, c.self.invariant.2),
    )

pub returns-clause-back : goal.returns-clause-back
returns-clause-back g c =
    let laws : All (KeepsLaws g.T.TableRings.pages) c.self.inside.workers.items = subst (All (KeepsLaws g.T.TableRings.pages)) c.deref.ensures.value c.laws_of.ensures in
    let lent = is_lent g.T.TableRings.pages g.T.TableRings.sides c.args.self _ c.in-Some.work c.self.view_is c.in-Some.is c.requires c.self.invariant.6 c.self.invariant.0 laws in
    record { work = c.in-Some.work; runs = refl; all = lent.all; each = lent.back }
