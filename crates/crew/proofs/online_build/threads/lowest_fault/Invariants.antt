use Rattle.std.proofs.Common.{◌≡◌, drop, map}
use Rattle.crew.specs.Returning.{first_fault}
use Rattle.crew.proofs.online_build.threads.lowest_fault.Given as goal

abbrev pub invariant-loop-number : goal.invariant-loop-number
invariant-loop-number g l = record {
  none_yet : first_fault (map (λ one. one.fault) l.back) ≡ first_fault (map (λ one. one.fault) (drop l.number l.back));
}
