use Rattle.std.proofs.Common.{◌≡◌, ◌++◌, ◌+◌, ◌≤◌, map, vec_len, vec_capacity}
use Rattle.bulk_load.proofs.threads.start.Given as goal

abbrev pub invariant-loop-alloc : goal.invariant-loop-alloc
invariant-loop-alloc g l = record {
  all : map (λ handle. handle.promise.seat.value) l.handles.items ++ l.seats.items ≡ l.fn.seats.items;
  room : vec_len l.handles + vec_len l.seats ≤ vec_capacity l.handles;
}

abbrev pub decreases-loop-alloc : goal.decreases-loop-alloc
decreases-loop-alloc g l = vec_len l.seats
