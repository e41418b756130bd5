use Rattle.std.proofs.Common.{◌≡◌, ◌≤◌, take, length, vec_capacity}
use Rattle.std.specs.Prelude.{map}
use Rattle.sfbuild_c.specs.KindBytes.{kind_byte}
use Rattle.sfbuild_c.proofs.kind_bytes.read_kinds.Given as goal

abbrev pub invariant-loop-byte : goal.invariant-loop-byte
invariant-loop-byte l = record {
  read : map kind_byte l.kinds.items ≡ take l.byte-index l.bytes;
  room : length l.bytes ≤ vec_capacity l.kinds;
}
