use Rattle.std.proofs.Common.{◌≡◌, ◌∙◌, ◌*◌, ℕ, List, map, replicate, ap, vec_capacity}
use Rattle.spool_ledger.specs.Accounts.{AccountValue, new_account}
use Rattle.spool_ledger.specs.Pools.{PoolValue, new_pool}
use Rattle.build_events.specs.CoreState.{SpoolsState}
use Rattle.prefix_spool.proofs.Accounts.{are_whole}
use Rattle.leased_core.proofs.OnePool.{new_are_new, none_left, split_are_of}
use Rattle.leased_core.proofs.leases.Leases.new.Goals as goal

-- the accounts are of that pool
numbered : (quotas : List ℕ) (accounts : List AccountValue) (pool : PoolValue) (pages : ℕ) → pool ≡ new_pool 0 pages
    → accounts ≡ map (new_account pool.number) quotas → accounts ≡ map (new_account 0) quotas
numbered quotas accounts pool pages made each = each ∙ ap (λ (pool : PoolValue). map (new_account pool.number) quotas) made

pub spools_over-requires : goal.spools_over-requires
spools_over-requires c =
    are_whole c.in_ok-pool.pool.number c.as_slice.result.now c.in_ok-accounts.accounts.items c.in_ok-accounts.ensures.1.each

pub returns-clause-leased : goal.returns-clause-leased
returns-clause-leased c =
    let quotas = c.as_slice.result.now in
    let equal : quotas ≡ replicate c.args.spools c.args.quota = c.as_slice.ensures.value ∙ c.in_ok-quotas.ensures.made in
    let each = numbered quotas _ c.in_ok-pool.pool _ c.in_ok-pool.ensures.ok c.in_ok-accounts.ensures.1.each in
    let fresh = new_are_new c.args.choice c.args.spools c.args.quota quotas _ _ equal each c.in_ok-spools_over.ensures.made c.in_ok-spools_over.ensures.kinds in
    split_are_of c.args.choice c.args.spools c.args.quota _ (vec_capacity c.in_ok-with_capacity.field-0) c.in_ok-pool.pool c.split.new.self _ quotas _
    c.in_ok-pool.ensures.ok c.in_ok-accounts.ensures.1.out c.pool.view_is equal c.in_ok-with_capacity.ensures.capacity
    (ap (λ (spools : SpoolsState). spools.stakes) fresh)

pub returns-clause-fresh : goal.returns-clause-fresh
returns-clause-fresh c =
    let quotas = c.as_slice.result.now in
    let equal : quotas ≡ replicate c.args.spools c.args.quota = c.as_slice.ensures.value ∙ c.in_ok-quotas.ensures.made in
    let each = numbered quotas _ c.in_ok-pool.pool _ c.in_ok-pool.ensures.ok c.in_ok-accounts.ensures.1.each in
    new_are_new c.args.choice c.args.spools c.args.quota quotas _ _ equal each c.in_ok-spools_over.ensures.made c.in_ok-spools_over.ensures.kinds

pub returns-clause-all_out : goal.returns-clause-all_out
returns-clause-all_out c =
    let quotas = c.as_slice.result.now in
    let equal : quotas ≡ replicate c.args.spools c.args.quota = c.as_slice.ensures.value ∙ c.in_ok-quotas.ensures.made in
    none_left c.args.spools c.args.quota c.in_ok-pool.pool c.split.new.self _ quotas c.in_ok-pool.ensures.ok c.in_ok-accounts.ensures.1.out c.pool.view_is equal
