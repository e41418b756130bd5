use Rattle.std.proofs.Common.{length, ◌-◌, ◌≡◌, ◌+◌, ◌≤◌, drop}
use Rattle.prefix_spool.specs.PrefixBytes.{shared}
use Rattle.prefix_spool.proofs.fronts.shared_front.Given as goal

abbrev pub invariant-loop-n : goal.invariant-loop-n
invariant-loop-n l = (shared l.before l.key ≡ l.n + shared (drop l.n l.before) (drop l.n l.key)) × (l.n ≤ length l.key)

abbrev pub decreases-loop-n : goal.decreases-loop-n
decreases-loop-n l = length l.before - l.n
