use Rattle.std.proofs.Common.{◌<◌, All, length, take}
use Rattle.run_maker.proofs.maker.Maker.laws.Given as goal

abbrev pub invariant-loop-begun : goal.invariant-loop-begun
invariant-loop-begun l = All (λ begun. length begun < 4096) (take l.begun-index l.self.begun)
