use Rattle.std.proofs.Common.{rules, All, Some, refl, sym, subst}
use Rattle.std.specs.Prelude.{IfSome}
use Rattle.std.proofs.lemmas.List.Elements.{All-push}
use Rattle.std.specs.Vec.Iter.{into_iter_items}
use Rattle.keybytes.specs.declared.fault.Fault.TheVariants.{Memory}
use Rattle.crew.specs.Places.{place_of}
use Rattle.crew.specs.Reports.{IsOther}
use Rattle.crew.proofs.Returned.{pushed_next}
use Rattle.crew.proofs.Others.{other_memory}
use Rattle.crew.proofs.online_build.threads.put_behind.Goals as goal

pub loop-worker-preserved : goal.loop-worker-preserved
loop-worker-preserved g c = (
  tt,
  tt,
  pushed_next (λ one. place_of one.worker) place_of _ c.loop-worker.back.items c.push_reserved.new.self.items _ (into_iter_items c.loop-worker.worker-iterator)
      (into_iter_items c.next.new.self) c.in-Some.worker c.loop-worker.invariant.2 c.push_reserved.ensures.items c.in-Some.ensures.steps.0 refl,
  pushed_next (λ one. one.fault) (λ worker. Some Memory) _ c.loop-worker.back.items c.push_reserved.new.self.items _
      (into_iter_items c.loop-worker.worker-iterator) (into_iter_items c.next.new.self) c.in-Some.worker c.loop-worker.invariant.3
      c.push_reserved.ensures.items c.in-Some.ensures.steps.0 refl,
  search rules,
  search rules,
  subst (All (λ one. IfSome one.fault IsOther)) (sym c.push_reserved.ensures.items)
      (All-push (λ one. IfSome one.fault IsOther) c.loop-worker.back.items _ c.loop-worker.invariant.6 other_memory),
)
