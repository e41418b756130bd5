use Rattle.std.proofs.Common.{◌≡◌, ◌≤◌, ◌+◌, ◌++◌, map, vec_len, vec_capacity}
use Rattle.building.proofs.batch_turns.put_back.Given as goal

abbrev pub invariant-loop-turn : goal.invariant-loop-turn
invariant-loop-turn l = record {
  indexes : map (λ turn. turn.work) l.turns.items ++ l.indexes.items ≡ map (λ turn. turn.work) l.initial.turns.items;
  ends : map (λ turn. turn.end) l.turns.items ++ l.ends.items ≡ map (λ turn. turn.end) l.initial.turns.items ++ l.initial.ends.items;
  indexes_room : vec_len l.turns + vec_len l.indexes ≤ vec_capacity l.indexes;
  ends_room : vec_len l.turns + vec_len l.ends ≤ vec_capacity l.ends;
}

abbrev pub decreases-loop-turn : goal.decreases-loop-turn
decreases-loop-turn l = vec_len l.turns
