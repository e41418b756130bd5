use Rattle.std.proofs.Common.{◌≡◌, ◌≤◌, ◌+◌, ◌++◌, map, vec_len, vec_capacity}
use Rattle.building.proofs.batch_turns.take_out.Given as goal

abbrev pub invariant-loop-turns : goal.invariant-loop-turns
invariant-loop-turns l = record {
  indexes : map (λ turn. turn.work) l.turns.items ++ l.indexes.items ≡ l.initial.indexes.items;
  ends : map (λ turn. turn.end) l.turns.items ++ l.ends.items ≡ l.initial.ends.items;
  within : vec_len l.indexes ≤ vec_len l.ends;
  room : vec_len l.turns + vec_len l.indexes ≤ vec_capacity l.turns;
  indexes_room : vec_capacity l.indexes ≡ vec_capacity l.initial.indexes;
  ends_room : vec_capacity l.ends ≡ vec_capacity l.initial.ends;
}

abbrev pub decreases-loop-turns : goal.decreases-loop-turns
decreases-loop-turns l = vec_len l.indexes
