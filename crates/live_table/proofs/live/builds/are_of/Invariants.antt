use Rattle.std.proofs.Common.{◌≡◌, true, take}
use Rattle.std.specs.List.{list_all}
use Rattle.keybytes.specs.Schemas.{same_kinds}
use Rattle.live_table.proofs.live.builds.are_of.Given as goal

abbrev pub invariant-loop-spec : goal.invariant-loop-spec
invariant-loop-spec l = list_all (λ spec. same_kinds spec.kinds l.schema) (take l.spec-index l.specs) ≡ true
