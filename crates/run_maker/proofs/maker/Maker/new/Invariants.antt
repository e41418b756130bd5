use Rattle.std.proofs.Common.{◌≡◌, ◌≤◌, [], map, take, length, vec_capacity}
use Rattle.run_maker.proofs.maker.Maker.new.Given as goal

abbrev pub invariant-loop : goal.invariant-loop
invariant-loop l = record {
  made : l.begun.items ≡ map (λ _. []) (take l.counter l.specs.items);
  room : length l.specs.items ≤ vec_capacity l.begun;
}
