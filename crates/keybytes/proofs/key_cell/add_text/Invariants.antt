use Rattle.std.proofs.Common.{◌≡◌, ◌≤◌, ◌++◌, take}
use Rattle.std.specs.List.{flat_map}
use Rattle.keybytes.specs.Keys.{escaped_byte}
use Rattle.keybytes.proofs.key_cell.add_text.Given as goal

abbrev pub invariant-loop-byte : goal.invariant-loop-byte
invariant-loop-byte g l = record {
  written : l.key.items ≡ l.initial.key.items ++ flat_map escaped_byte (take l.byte-index l.text);
  room : l.initial.key.capacity ≤ l.key.capacity;
}
