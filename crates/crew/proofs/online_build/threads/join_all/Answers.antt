use Rattle.std.proofs.Common.{rules, All, sym, subst}
use Rattle.std.specs.Prelude.{IfSome}
use Rattle.std.proofs.lemmas.List.Elements.{All-push}
use Rattle.std.specs.Vec.Iter.{into_iter_items}
use Rattle.crew.specs.Places.{place_of}
use Rattle.crew.specs.Reports.{IsOther}
use Rattle.crew.proofs.Returned.{pushed_next}
use Rattle.crew.proofs.online_build.threads.join_all.Goals as goal

pub loop-handle-preserved : goal.loop-handle-preserved
loop-handle-preserved g c = (
  tt,
  tt,
  pushed_next (λ one. place_of one.worker) (λ handle. place_of handle.promise.worker.value) _ c.loop-handle.back.items c.push_reserved.new.self.items c.join.result
      (into_iter_items c.loop-handle.handle-iterator) (into_iter_items c.next.new.self) c.in-Some.handle c.loop-handle.invariant.2 c.push_reserved.ensures.items
      c.in-Some.ensures.steps.0 c.join.ensures.0,
  search rules,
  search rules,
  subst (All (λ one. IfSome one.fault IsOther)) (sym c.push_reserved.ensures.items)
      (All-push (λ one. IfSome one.fault IsOther) c.loop-handle.back.items c.join.result c.loop-handle.invariant.5 c.join.ensures.1),
)
