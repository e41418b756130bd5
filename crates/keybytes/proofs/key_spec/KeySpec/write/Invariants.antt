use Rattle.std.proofs.Common.{◌≡◌, ◌≤◌, take}
use Rattle.std.specs.List.{flat_map}
use Rattle.keybytes.proofs.KeyWrites.{part}
use Rattle.keybytes.proofs.key_spec.KeySpec.write.Given as goal

abbrev pub invariant-loop-column : goal.invariant-loop-column
invariant-loop-column g l = record {
  written : l.bytes.items ≡ flat_map (part l.cells) (take l.column-index l.column-items);
  room : l.initial.bytes.capacity ≤ l.bytes.capacity;
}
