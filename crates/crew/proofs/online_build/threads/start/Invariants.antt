use Rattle.std.proofs.Common.{◌≡◌, ◌++◌, ◌+◌, ◌≤◌, map, vec_len, vec_capacity}
use Rattle.crew.specs.Places.{place_of, places_of}
use Rattle.crew.proofs.online_build.threads.start.Given as goal

abbrev pub invariant-loop-alloc : goal.invariant-loop-alloc
invariant-loop-alloc g l = record {
  all : map (λ handle. place_of handle.promise.worker.value) l.handles.items ++ places_of l.workers.items ≡ places_of l.fn.workers.items;
  many : vec_len l.handles + vec_len l.workers ≡ vec_len l.fn.workers;
  room : vec_len l.handles + vec_len l.workers ≤ vec_capacity l.handles;
}

abbrev pub decreases-loop-alloc : goal.decreases-loop-alloc
decreases-loop-alloc g l = vec_len l.workers
