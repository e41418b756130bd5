use Rattle.std.proofs.Common.{◌≡◌, ◌<◌, ℕ, false}
use Rattle.bench.specs.SpoolPages.{fits}
use Rattle.bench.proofs.spool_pages.workers_for.Given as goal

abbrev pub invariant-loop-workers : goal.invariant-loop-workers
invariant-loop-workers l = record { fewer : (fewer : ℕ) → 0 < fewer → fewer < l.workers → fits l.rows l.key_size fewer ≡ false }
