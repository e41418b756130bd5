use Rattle.std.proofs.Common.{rules, ◌≡◌, ◌∙◌, List, Option, Some, [], All, map, sym, ap, subst}
use Rattle.std.proofs.lemmas.List.Elements.{All-same}
use Rattle.page_workers.specs.SpoolValue.{SpoolValue, spool_value}
use Rattle.side_file.specs.declared.entry.Entry.{Entry}
use Rattle.catch_up.specs.Built.{told_to}
use Rattle.side_file.specs.Ends.{TakeEnd}
use Rattle.page_workers.specs.WorkerValue.{WorkerValue}
use Rattle.building.specs.BuildingValue.{BuildingValue, WorkValue}
use Rattle.building.specs.Keeping.{KeepsWork}
use Rattle.building.proofs.Kept.{fresh_kept}
use Rattle.page_workers.proofs.Places.{all_mapped}
use Rattle.building.proofs.beside.Building.begin.Goals as goal

pub invariant_of-self : goal.invariant_of-self
invariant_of-self g c =
    let spool = g.S.Spool in
    let value = spool_value spool.runs spool.open_run spool.stake in
    let ends : List (TakeEnd Entry) = c.self.inside.side_ends.items in
    let workers : List WorkerValue = c.equip.new.workers.items in
    let home = c.replace-spools.new.dest in
    let none : map value home.items ≡ [] = ap (λ v. map value v.items) c.replace-spools.ensures.after ∙ ap (map value) c.requires.home.none in
    let unused : All (λ (end : TakeEnd Entry). told_to c.args.work.build end.received ≡ []) ends =
    subst (λ (b : BuildingValue). All (λ (end : TakeEnd Entry). told_to c.args.work.build end.received ≡ []) b.sides) (sym c.self.view_is) c.requires.unused in
    let kept = subst (λ (spools : List SpoolValue). KeepsWork workers ends spools (Some c.args.work)) (sym none)
    (subst (λ (o : Option WorkValue). KeepsWork workers ends [] o) (ap Some (sym c.requires.nothing_done))
    (fresh_kept c.args.work.build c.args.work.specs workers ends c.equip.ensures.workers unused)) in (
      search rules,
      search rules,
      search rules,
      λ nothing. absurd (cc),
      λ given. absurd (cc),
      λ given nothing. absurd (cc),
      kept,
      λ place worker at. (c.equip.ensures.workers place worker at).number,
    )

pub equip-requires-clause-empty : goal.equip-requires-clause-empty
equip-requires-clause-empty g c =
    let spool = g.S.Spool in
    let value = spool_value spool.runs spool.open_run spool.stake in
    let items = c.self.inside.spools.items in
    let seen : All (λ (s : SpoolValue). (s.runs ≡ []) × (s.open_run ≡ [])) (map value items) =
    subst (λ (b : BuildingValue). All (λ (s : SpoolValue). (s.runs ≡ []) × (s.open_run ≡ [])) b.spools) (sym c.self.view_is) c.requires.empty in
    All-same (λ s. (spool.runs s ≡ []) × (spool.open_run s ≡ [])) c.replace-spools.result.items items (ap (λ v. v.items) c.replace-spools.ensures.value)
    (all_mapped (λ (s : SpoolValue). (s.runs ≡ []) × (s.open_run ≡ [])) value items seen)
