use Rattle.std.proofs.Common.{◌≡◌, map, take}
use Rattle.keybytes.specs.Keys.{complement}
use Rattle.keybytes.proofs.key_column.complemented.Given as goal

abbrev pub invariant-loop-byte : goal.invariant-loop-byte
invariant-loop-byte l = l.turned.items ≡ map complement (take l.byte-index l.bytes)
