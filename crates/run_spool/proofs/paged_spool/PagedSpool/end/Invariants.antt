use Rattle.std.proofs.Common.{◌≡◌, length, vec_len, vec_capacity}
use Rattle.spool_ledger.specs.Accounts.{with_free}
use Rattle.run_spool.specs.PagedSpools.{IsSpool}
use Rattle.run_spool.proofs.paged_spool.PagedSpool.end.Given as goal

abbrev pub invariant-loop-run : goal.invariant-loop-run
invariant-loop-run g l =
    let s = l.self-inside in
    IsSpool g.P.PageOfPairs.pair_size s.account (length s.spare) s.runs.items (vec_capacity s.runs) s.open_run s.open_len s.last
    × (l.self-inside.account ≡ with_free l.fn.self.account l.self-inside.account.free)

abbrev pub decreases-loop-run : goal.decreases-loop-run
decreases-loop-run g l = vec_len l.self-inside.runs
