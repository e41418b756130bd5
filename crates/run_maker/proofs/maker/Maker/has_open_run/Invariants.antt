use Rattle.std.proofs.Common.{◌≡◌, [], All, take}
use Rattle.run_maker.proofs.maker.Maker.has_open_run.Given as goal

abbrev pub invariant-loop-begun : goal.invariant-loop-begun
invariant-loop-begun l = All (λ begun. begun ≡ []) (take l.begun-index l.self.begun)
