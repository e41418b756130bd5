use Rattle.std.proofs.Common.{ℕ, ◌<◌, ◌≤◌, List, length, map, Option, vec_capacity, refl, sym, ap, subst, arith}
use Rattle.run_spool.specs.Spools.{IsFullIntact}
use Rattle.page_workers.specs.SpoolValue.{spool_value}
use Rattle.page_workers.specs.WorkerValue.{WorkerValue}
use Rattle.building.specs.BuildingValue.{BuildingValue, WorkValue}
use Rattle.building.specs.Keeping.{KeepsWork}
use Rattle.page_workers.proofs.Places.{at_index}
use Rattle.building.proofs.Kept.{turn_kept}
use Rattle.building.proofs.Numbered.{numbered_set}
use Rattle.building.proofs.Stepping.{as_many_after, done_step, ends_stay, same_after, stopped_step}
use Rattle.building.proofs.beside.Building.take.Goals as goal

pub invariant_of-self : goal.invariant_of-self
invariant_of-self g c =
    let spool = g.S.Spool in
    let value = spool_value spool.runs spool.open_run spool.stake in
    let workers : List WorkerValue = c.self.inside.workers.items in
    let it : WorkerValue = c.index_mut.result.now in
    let after : WorkerValue = c.take-answer.new.self in
    let less : c.args.worker < length workers = omega (arith, c.requires.there, ap (λ (b : BuildingValue). length b.workers) c.self.view_is) in
    let at = at_index workers c.args.worker it c.index_mut.ensures.value less in
    let stays = same_after (IsFullIntact spool.is_full spool.is_intact spool.runs) spool.runs spool.open_run spool.stake c.args.turn it after c.take-answer.result c.take-answer.ensures.done
    c.take-answer.ensures.stopped in
    let many = as_many_after workers (map value c.self.inside.spools.items) c.args.worker it after at stays.stakes in (
      ends_stay workers c.args.worker it after at stays.ring _ _ c.self.inside.idle.items _ c.self.invariant.0,
      c.self.invariant.1,
      subst (λ (n : ℕ). n ≤ vec_capacity c.self.inside.spools) (sym many) c.self.invariant.2,
      λ none. absurd (cc),
      λ given. let none = c.self.invariant.4 given in let some = c.in-Some.is in absurd (cc),
      λ given none. absurd (cc),
      turn_kept workers c.self.inside.side_ends.items (map value c.self.inside.spools.items) c.in-Some.work c.note_fault.new.work c.args.worker it after
          at (subst (λ (o : Option WorkValue). KeepsWork workers c.self.inside.side_ends.items (map value c.self.inside.spools.items) o) c.in-Some.is
          c.self.invariant.6) c.args.turn c.take-answer.result c.note_fault.ensures.fine c.note_fault.ensures.spoiled c.take-answer.ensures.done,
      numbered_set workers c.args.worker it after at stays.number c.self.invariant.7,
    )

pub returns-clause-did : goal.returns-clause-did
returns-clause-did g c =
    let workers : List WorkerValue = c.self.inside.workers.items in
    let it : WorkerValue = c.index_mut.result.now in
    let less : c.args.worker < length workers = omega (arith, c.requires.there, ap (λ (b : BuildingValue). length b.workers) c.self.view_is) in
    let at = at_index workers c.args.worker it c.index_mut.ensures.value less in
    done_step c.args.turn c.args.self.now _ c.in-Some.work c.in-Some.work c.self.view_is c.in-Some.is refl c.args.worker it c.take-answer.new.self at
    c.take-answer.result c.note_fault.new.work c.note_fault.ensures.fine c.take-answer.ensures.done

pub returns-clause-stopped : goal.returns-clause-stopped
returns-clause-stopped g c =
    let spool = g.S.Spool in
    let workers : List WorkerValue = c.self.inside.workers.items in
    let it : WorkerValue = c.index_mut.result.now in
    let less : c.args.worker < length workers = omega (arith, c.requires.there, ap (λ (b : BuildingValue). length b.workers) c.self.view_is) in
    let at = at_index workers c.args.worker it c.index_mut.ensures.value less in
    stopped_step c.args.turn c.args.self.now _ c.in-Some.work c.in-Some.work c.self.view_is c.in-Some.is refl c.args.worker it c.take-answer.new.self at
    (IsFullIntact spool.is_full spool.is_intact spool.runs) spool.runs spool.open_run spool.stake c.take-answer.result c.note_fault.new.work c.note_fault.ensures.spoiled c.take-answer.ensures.stopped
