use Rattle.std.proofs.Common.{◌≡◌, All, length}
use Rattle.layer_tests.proofs.merges.filling.maker.Given as goal

abbrev pub invariant-loop : goal.invariant-loop
invariant-loop l = record {
  columns : All (λ spec. spec.kinds ≡ l.schema) l.specs.items;
  count : length l.specs.items ≡ l.counter;
}
