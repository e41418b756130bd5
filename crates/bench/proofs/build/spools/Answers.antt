use Rattle.prefix_spool.proofs.Accounts.{are_whole}
use Rattle.bench.proofs.build.spools.Goals as goal

pub spools_over-requires : goal.spools_over-requires
spools_over-requires c =
    are_whole c.in_ok-pool.pool.number c.as_slice-2.result.now c.in_ok-accounts.accounts.items c.in_ok-accounts.ensures.1.each
