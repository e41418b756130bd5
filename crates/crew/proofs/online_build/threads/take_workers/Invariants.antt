use Rattle.std.proofs.Common.{◌≡◌, ◌++◌, ◌+◌, ◌≤◌, map, length, vec_len, vec_capacity}
use Rattle.std.specs.Vec.Iter.{into_iter_items}
use Rattle.crew.specs.Places.{place_of, places_of}
use Rattle.crew.proofs.online_build.threads.take_workers.Given as goal

abbrev pub invariant-loop-one : goal.invariant-loop-one
invariant-loop-one g l =
    (goal.iterator-loop-one g).can_next l.one-iterator ×
    (goal.iterator-loop-one g).is_finite l.one-iterator ×
    (places_of l.workers.items ++ map (λ one. place_of one.worker) (into_iter_items l.one-iterator) ≡ map (λ one. place_of one.worker) l.fn.back.items) ×
    (vec_len l.workers + length (into_iter_items l.one-iterator) ≤ vec_capacity l.workers)
