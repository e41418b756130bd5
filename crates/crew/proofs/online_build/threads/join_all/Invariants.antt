use Rattle.std.proofs.Common.{◌≡◌, ◌++◌, ◌+◌, All, map, length, vec_len, vec_capacity}
use Rattle.std.specs.Prelude.{IfSome}
use Rattle.std.specs.Vec.Iter.{into_iter_items}
use Rattle.crew.specs.Reports.{IsOther}
use Rattle.crew.specs.Places.{place_of}
use Rattle.crew.proofs.online_build.threads.join_all.Given as goal

abbrev pub invariant-loop-handle : goal.invariant-loop-handle
invariant-loop-handle g l =
    (goal.iterator-loop-handle g).can_next l.handle-iterator ×
    (goal.iterator-loop-handle g).is_finite l.handle-iterator ×
    (map (λ one. place_of one.worker) l.back.items ++ map (λ handle. place_of handle.promise.worker.value) (into_iter_items l.handle-iterator)
    ≡ map (λ handle. place_of handle.promise.worker.value) l.fn.handles.items) ×
    (vec_len l.back + length (into_iter_items l.handle-iterator) ≡ vec_len l.fn.handles) ×
    (vec_capacity l.back ≡ vec_capacity l.initial.back) ×
    All (λ one. IfSome one.fault IsOther) l.back.items
