use Rattle.std.proofs.Common.{◌≡◌, ◌++◌, ◌+◌, ◌≤◌, [], map, vec_len, vec_capacity}
use Rattle.race.proofs.threads.start.Given as goal

abbrev pub invariant-loop-alloc : goal.invariant-loop-alloc
invariant-loop-alloc g l = record {
  all : map (λ handle. handle.promise.script.value) l.handles.items ++ l.scripts.items ≡ l.fn.scripts.items;
  many : vec_len l.handles + vec_len l.scripts ≡ vec_len l.fn.scripts;
  none : l.ended.items ≡ [];
  room : vec_len l.handles + vec_len l.scripts ≤ vec_capacity l.handles;
  room_here : vec_len l.scripts ≤ vec_capacity l.ended;
}

abbrev pub decreases-loop-alloc : goal.decreases-loop-alloc
decreases-loop-alloc g l = vec_len l.scripts
