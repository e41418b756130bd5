use Rattle.std.proofs.Common.{◌≡◌, ◌++◌, ◌+◌, List, length, map, vec_len, vec_capacity}
use Rattle.std.specs.List.{AllZip}
use Rattle.std.specs.Vec.Iter.{into_iter_items}
use Rattle.index_load.specs.IndexLoad.{HasRun, IndexLoadValue}
use Rattle.crew.proofs.online_build.loading.join_all.Given as goal

abbrev pub invariant-loop-handle : goal.invariant-loop-handle
invariant-loop-handle g l =
    (goal.iterator-loop-handle g).can_next l.handle-iterator ×
    (goal.iterator-loop-handle g).is_finite l.handle-iterator ×
    ((gone : List IndexLoadValue) × AllZip HasRun gone l.back.items
    × (gone ++ map (λ handle. handle.promise.load.value) (into_iter_items l.handle-iterator) ≡ map (λ handle. handle.promise.load.value) l.fn.handles.items)) ×
    (vec_len l.back + length (into_iter_items l.handle-iterator) ≡ vec_len l.fn.handles) ×
    (vec_capacity l.back ≡ vec_capacity l.fn.back)

abbrev pub invariant-loop-load : goal.invariant-loop-load
invariant-loop-load g l =
    (goal.iterator-loop-load g).can_next l.load-iterator ×
    (goal.iterator-loop-load g).is_finite l.load-iterator ×
    (l.back.items ++ into_iter_items l.load-iterator ≡ l.initial.back.items ++ l.fn.rest.items) ×
    (vec_len l.back + length (into_iter_items l.load-iterator) ≡ vec_len l.initial.back + vec_len l.fn.rest) ×
    (vec_capacity l.back ≡ vec_capacity l.fn.back)
