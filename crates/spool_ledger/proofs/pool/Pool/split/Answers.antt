use Rattle.std.proofs.Common.{◌≡◌, ◌∙◌, ◌+◌, ◌-◌, List, map, sum, take, vec_len, refl, ap, arith}
use Rattle.std.proofs.lemmas.List.{take_all, take_at}
use Rattle.std.specs.List.{sum_by}
use Rattle.spool_ledger.specs.Accounts.{AccountValue, leased, filled, unfilled}
use Rattle.spool_ledger.specs.Pools.{PoolValue, with_out}
use Rattle.spool_ledger.proofs.Fills.{leased_rooms, filled_rooms, not_refused, same_pool}
use Rattle.spool_ledger.proofs.pool.Pool.split.Goals as goal

pub fill_all-requires : goal.fill_all-requires
fill_all-requires c =
    let number = c.self.inside.number in
    let quotas = c.args.quotas.now in
    let all : take c.loop-quota.quota-index quotas ≡ quotas = take_all c.loop-quota.quota-index quotas (omega arith) in
    let rooms : c.deref_mut.result.now ≡ map (unfilled number) quotas = c.deref_mut.ensures.value ∙ c.in_ok-accounts.ensures.made in
    let lacking : sum_by leased c.deref_mut.result.now ≡ sum quotas = ap (λ (xs : List AccountValue). sum_by leased xs) rooms ∙ leased_rooms number quotas in
    record { enough = omega (arith, lacking, ap sum all, c.loop-quota.invariant) }

pub invariant_of-self : goal.invariant_of-self
invariant_of-self c =
    let number = c.self.inside.number in
    let quotas = c.args.quotas.now in
    let all : take c.loop-quota.quota-index quotas ≡ quotas = take_all c.loop-quota.quota-index quotas (omega arith) in
    let rooms : c.deref_mut.result.now ≡ map (unfilled number) quotas = c.deref_mut.ensures.value ∙ c.in_ok-accounts.ensures.made in
    let lacking : sum_by leased c.deref_mut.result.now ≡ sum quotas = ap (λ (xs : List AccountValue). sum_by leased xs) rooms ∙ leased_rooms number quotas in
    omega (arith, c.self.invariant, c.len-free.ensures, lacking, ap sum all, c.loop-quota.invariant, c.fill_all.ensures.taken, c.fill_all.ensures.room)

pub returns : goal.returns
returns c =
    let number = c.self.inside.number in
    let quotas = c.args.quotas.now in
    let all : take c.loop-quota.quota-index quotas ≡ quotas = take_all c.loop-quota.quota-index quotas (omega arith) in
    let rooms : c.deref_mut.result.now ≡ map (unfilled number) quotas = c.deref_mut.ensures.value ∙ c.in_ok-accounts.ensures.made in
    let lacking : sum_by leased c.deref_mut.result.now ≡ sum quotas = ap (λ (xs : List AccountValue). sum_by leased xs) rooms ∙ leased_rooms number quotas in
    let taken = c.fill_all.ensures.taken in
    let counted = ap sum all in
    let pool : PoolValue = record { number = number; free = vec_len c.self.inside.pages; out = c.self.inside.out } in
    let out = c.self.inside.out + (c.len-free.result - c.loop-quota.left) in
    let new : PoolValue = record { number = number; free = vec_len c.fill_all.new.pages; out = out } in
    rw (← c.self.view_is) (
      not_refused pool quotas (omega (arith, counted, c.loop-quota.invariant)),
      record {
        each =
            take_at c.fill_all.new.accounts _ c.in_ok-accounts.accounts.len (omega arith)
            ∙ c.fill_all.ensures.filled ∙ (ap (map filled) rooms ∙ filled_rooms number quotas);
        out =
            same_pool (with_out pool (sum quotas)) new refl (omega (arith, taken, lacking))
            (omega (arith, counted, c.len-free.ensures, c.loop-quota.invariant));
      },
    )
