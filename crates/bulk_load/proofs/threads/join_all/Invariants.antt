use Rattle.std.proofs.Common.{◌≡◌, ◌++◌, ◌+◌, ◌≤◌, map, length, vec_len, vec_capacity}
use Rattle.std.specs.List.{flat_map}
use Rattle.std.specs.Vec.Iter.{into_iter_items}
use Rattle.bulk_load.proofs.threads.join_all.Given as goal

abbrev pub invariant-loop-handle : goal.invariant-loop-handle
invariant-loop-handle g l =
    (goal.iterator-loop-handle g).can_next l.handle-iterator ×
    (goal.iterator-loop-handle g).is_finite l.handle-iterator ×
    (map g.S.Spool.stake l.home.items ++ flat_map (λ handle. handle.promise.seat.value) (into_iter_items l.handle-iterator)
    ≡ map g.S.Spool.stake l.fn.home.items ++ flat_map (λ handle. handle.promise.seat.value) l.fn.handles.items) ×
    (vec_len l.home + length (flat_map (λ handle. handle.promise.seat.value) (into_iter_items l.handle-iterator)) ≤ vec_capacity l.home) ×
    (vec_capacity l.home ≡ vec_capacity l.fn.home)
