use Rattle.std.proofs.Common.{◌≡◌, ◌+◌, ◌≤◌, length}
use Rattle.std.specs.List.{All}
use Rattle.spool_ledger.specs.Accounts.{with_free}
use Rattle.run_spool.specs.Runs.{pairs_of, HasPairs, without_pairs}
use Rattle.run_spool.proofs.run.free_first.Given as goal

abbrev pub invariant-loop-left : goal.invariant-loop-left
invariant-loop-left g l = record {
  within : l.left ≤ length (pairs_of l.chain);
  each : All HasPairs l.chain;
  pages : without_pairs l.left l.chain ≡ without_pairs l.n l.fn.chain;
  given : l.account.free + length l.chain ≡ l.fn.account.free + length l.fn.chain;
  account : l.account ≡ with_free l.fn.account l.account.free;
  frames : length l.spare + length l.chain ≡ length l.fn.spare + length l.fn.chain;
}

abbrev pub decreases-loop-left : goal.decreases-loop-left
decreases-loop-left g l = length l.chain
