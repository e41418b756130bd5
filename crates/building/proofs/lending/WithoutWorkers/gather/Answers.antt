use Rattle.std.proofs.Common.{◌≡◌, ◌∙◌, ◌+◌, ◌-◌, ◌*◌, ℕ, [], List, Option, Some, length, map, ap, sym, subst, arith}
use Rattle.std.specs.List.{slice_get}
use Rattle.std.proofs.lemmas.Option.{same_Some}
use Rattle.keybytes.specs.declared.fault.Fault.{Fault}
use Rattle.page_workers.specs.IntakeValue.{IntakeValue}
use Rattle.page_workers.specs.SpoolValue.{SpoolValue, spool_value}
use Rattle.page_workers.specs.WorkerValue.{WorkerValue}
use Rattle.building.specs.BuildingValue.{BuildingValue, WorkValue}
use Rattle.building.specs.Holding.{all_spools}
use Rattle.building.specs.Keeping.{KeepsWork}
use Rattle.building.specs.Lent.{IsBack, lowest_fault}
use Rattle.building.proofs.LentBack.{ends_back, spools_many, work_back}
use Rattle.building.proofs.lending.WithoutWorkers.gather.Goals as goal

pub invariant_of-result : goal.invariant_of-result
invariant_of-result g c =
    let spool = g.S.Spool in
    let value = spool_value spool.runs spool.open_run spool.stake in
    let workers : List WorkerValue = c.args.workers.items in
    let idle : List IntakeValue = c.self.inside.idle.items in
    let ends = c.self.inside.side_ends.items in
    let work : WorkValue = c.self.inside.work in
    let stays = c.self.invariant.0 in
    let same : c.requires.work ≡ work =
    same_Some c.requires.work work (sym c.requires.runs ∙ sym (ap (λ (b : BuildingValue). b.work) c.self.view_is)) in
    let all : length workers + length idle ≡ 16 = let there = ap (λ (b : BuildingValue). length b.idle) c.self.view_is in omega (arith, c.requires.all, there) in
    let back : (k : ℕ) (worker : WorkerValue) → slice_get workers k ≡ Some worker → IsBack g.T.TableRings.pages work.build work.specs k worker =
    subst (λ (w : WorkValue). (k : ℕ) (worker : WorkerValue) → slice_get workers k ≡ Some worker → IsBack g.T.TableRings.pages w.build w.specs k worker) same c.requires.each in
    let none : map value c.self.inside.spools.items ≡ [] = ap (map value) c.self.invariant.1 in
    let many = ap (λ (l : List SpoolValue). length (all_spools workers l)) none ∙ spools_many work.specs workers (λ k worker at. (back k worker at).own) in
    let place : 16 - length idle ≡ length workers = omega (arith, all) in
    let stopped : c.first_stopped-work-inside.result ≡ lowest_fault workers = c.first_stopped-work-inside.ensures ∙ ap lowest_fault c.deref.ensures.value in
    let room = ap (λ n. n * length work.specs) place in (
      ends_back _ _ workers idle ends work stays all (λ k worker at. (back k worker at).ring),
      c.self.invariant.2,
      omega (arith, many, room, c.self.invariant.3),
      λ nothing. absurd (cc),
      λ given. absurd (cc),
      λ given nothing. absurd (cc),
      subst (λ (w : WorkValue). KeepsWork workers ends (map value c.self.inside.spools.items) (Some (record w { spoiled = c.first_stopped-work-inside.result })))
          (sym c.work.view_is)
          (subst (λ (o : Option Fault). KeepsWork workers ends (map value c.self.inside.spools.items) (Some (record work { spoiled = o }))) (sym stopped)
          (subst (λ (l : List SpoolValue). KeepsWork workers ends l (Some (record work { spoiled = lowest_fault workers }))) (sym none)
          (work_back _ _ workers idle ends work stays back))),
      λ place worker at. (back place worker at).number,
    )
