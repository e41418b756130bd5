use Rattle.std.proofs.Common.{◌≡◌, map, take, drop}
use Rattle.keybytes.specs.Keys.{complement}
use Rattle.keybytes.proofs.key_column.turn.Given as goal

abbrev pub invariant-loop-byte : goal.invariant-loop-byte
invariant-loop-byte l = record {
  turned : take l.byte-index l.bytes ≡ map complement (take l.byte-index l.initial.bytes);
  left : drop l.byte-index l.bytes ≡ drop l.byte-index l.initial.bytes;
}
