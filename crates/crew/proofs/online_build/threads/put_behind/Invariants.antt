use Rattle.std.proofs.Common.{◌≡◌, ◌++◌, ◌+◌, ◌≤◌, All, Some, map, length, vec_len, vec_capacity}
use Rattle.std.specs.Prelude.{IfSome}
use Rattle.std.specs.Vec.Iter.{into_iter_items}
use Rattle.keybytes.specs.declared.fault.Fault.TheVariants.{Memory}
use Rattle.crew.specs.Reports.{IsOther}
use Rattle.crew.specs.Places.{place_of, places_of}
use Rattle.crew.proofs.online_build.threads.put_behind.Given as goal

abbrev pub invariant-loop-worker : goal.invariant-loop-worker
invariant-loop-worker g l =
    (goal.iterator-loop-worker g).can_next l.worker-iterator ×
    (goal.iterator-loop-worker g).is_finite l.worker-iterator ×
    (map (λ one. place_of one.worker) l.back.items ++ places_of (into_iter_items l.worker-iterator)
    ≡ map (λ one. place_of one.worker) l.initial.back.items ++ places_of l.fn.rest.items) ×
    (map (λ one. one.fault) l.back.items ++ map (λ worker. Some Memory) (into_iter_items l.worker-iterator)
    ≡ map (λ one. one.fault) l.initial.back.items ++ map (λ worker. Some Memory) l.fn.rest.items) ×
    (vec_len l.back + length (into_iter_items l.worker-iterator) ≡ vec_len l.initial.back + vec_len l.fn.rest) ×
    (vec_len l.back + length (into_iter_items l.worker-iterator) ≤ vec_capacity l.back) ×
    All (λ one. IfSome one.fault IsOther) l.back.items
