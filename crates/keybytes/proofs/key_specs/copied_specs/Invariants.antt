use Rattle.std.proofs.Common.{◌≡◌, ◌≤◌, length, take, vec_capacity}
use Rattle.keybytes.proofs.key_specs.copied_specs.Given as goal

abbrev pub invariant-loop-spec : goal.invariant-loop-spec
invariant-loop-spec l = record {
  copied : l.copies.items ≡ take l.spec-index l.specs;
  room : length l.specs ≤ vec_capacity l.copies;
}
