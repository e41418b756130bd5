use Rattle.std.proofs.Common.{◌≡◌, ◌++◌, ◌+◌, ◌≤◌, map, vec_len, vec_capacity}
use Rattle.crew.proofs.online_build.loading.start.Given as goal

abbrev pub invariant-loop-loads : goal.invariant-loop-loads
invariant-loop-loads g l = record {
  all : map (λ handle. handle.promise.load.value) l.handles.items ++ l.loads.items ≡ l.fn.loads.items;
  many : vec_len l.handles + vec_len l.loads ≡ vec_len l.fn.loads;
  room : vec_len l.handles + vec_len l.loads ≤ vec_capacity l.handles;
}

abbrev pub decreases-loop-loads : goal.decreases-loop-loads
decreases-loop-loads g l = vec_len l.loads
