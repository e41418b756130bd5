use Rattle.std.proofs.Common.{◌≡◌, All, arith, map, subst, sym, vec_capacity}
use Rattle.std.proofs.lemmas.List.Elements.{All-nil}
use Rattle.spool_ledger.specs.Accounts.{IsWhole}
use Rattle.spool_ledger.specs.Pools.{with_back}
use Rattle.leased_core.specs.Leasing.{AreOf, LeasesValue, stake_in}
use Rattle.leased_core.proofs.OnePool.{all_back, back_own, back_out}
use Rattle.leased_core.proofs.leases.Leases.reclaim.Goals as goal

pub reclaim-requires-clause-own : goal.reclaim-requires-clause-own
reclaim-requires-clause-own c =
    let leases : LeasesValue = record { pool = c.self.inside.pool; room = vec_capacity c.self.inside.accounts } in
    let of = subst (λ (leases : LeasesValue). AreOf leases (map stake_in c.args.spools.items)) (sym c.self.view_is) c.requires in
    back_own leases c.args.spools.items c.self.inside.accounts.items c.give_up_all.new.accounts.items c.self.invariant c.give_up_all.ensures.shares of

pub reclaim-requires-clause-out : goal.reclaim-requires-clause-out
reclaim-requires-clause-out c =
    let leases : LeasesValue = record { pool = c.self.inside.pool; room = vec_capacity c.self.inside.accounts } in
    let of = subst (λ (leases : LeasesValue). AreOf leases (map stake_in c.args.spools.items)) (sym c.self.view_is) c.requires in
    let out = back_out leases c.args.spools.items c.self.inside.accounts.items c.give_up_all.new.accounts.items c.self.invariant c.give_up_all.ensures.shares of in
    omega (arith, out)

pub returns-clause-pool : goal.returns-clause-pool
returns-clause-pool c =
    let leases : LeasesValue = record { pool = c.self.inside.pool; room = vec_capacity c.self.inside.accounts } in
    let of = subst (λ (leases : LeasesValue). AreOf leases (map stake_in c.args.spools.items)) (sym c.self.view_is) c.requires in
    let out = back_out leases c.args.spools.items c.self.inside.accounts.items c.give_up_all.new.accounts.items c.self.invariant c.give_up_all.ensures.shares of in
    let whole = c.give_up_all.ensures.whole (subst (All IsWhole) (sym c.self.invariant) (All-nil IsWhole)) in
    subst (λ (leases : LeasesValue). c.reclaim.new.self ≡ with_back leases.pool leases.pool.out) c.self.view_is
    (all_back c.self.inside.pool c.reclaim.new.self c.give_up_all.new.accounts.items out whole c.reclaim.ensures.taken_in)
