use Rattle.std.proofs.Common.{◌≡◌, take}
use Rattle.keybytes.proofs.schema.Schema.of.Given as goal

abbrev pub invariant-loop-kind : goal.invariant-loop-kind
invariant-loop-kind l = l.in_place.items ≡ take l.kind-index l.kinds
