use Rattle.std.proofs.Common.{◌+◌, ◌≡◌, ◌≤◌, length, vec_len, vec_capacity}
use Rattle.catch_up.proofs.Taking.{BatchSoFar}
use Rattle.catch_up.proofs.batch.take_batch.Given as goal

abbrev pub invariant-loop : goal.invariant-loop
invariant-loop l = record {
  so_far : BatchSoFar l.counter l.build l.initial.end l.end l.batch.items;
  rest : length l.end.known + l.counter ≡ length l.initial.end.known;
  few : vec_len l.batch ≤ l.counter;
  places : l.count ≤ vec_capacity l.batch;
}
