use Rattle.std.proofs.Common.{◌≡◌, List, take}
use Rattle.std.specs.Prelude.{map}
use Rattle.keybytes.specs.declared.kind.Kind.{Kind}
use Rattle.sfbuild_c.specs.KindBytes.{kind_byte}
use Rattle.sfbuild_c.proofs.kind_bytes.check_kinds.Given as goal

abbrev pub invariant-loop-byte : goal.invariant-loop-byte
invariant-loop-byte l = (kinds : List Kind) × (map kind_byte kinds ≡ take l.byte-index l.bytes)
