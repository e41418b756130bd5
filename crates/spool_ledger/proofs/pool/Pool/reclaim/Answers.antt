use Rattle.std.proofs.Common.{◌≡◌, ◌≤◌, ◌∷◌, ◌∙◌, List, All, ap, sym, subst, rules, arith}
use Rattle.std.specs.List.{sum_by}
use Rattle.std.specs.Vec.Iter.{into_iter_items}
use Rattle.std.proofs.lemmas.List.Elements.{All-cons}
use Rattle.std.proofs.lemmas.List.Sums.{sum_by-cons}
use Rattle.spool_ledger.specs.Accounts.{AccountValue, IsWhole, leased}
use Rattle.spool_ledger.specs.Pools.{quota_of, free_of}
use Rattle.spool_ledger.proofs.Fills.{whole_lack_none}
use Rattle.spool_ledger.proofs.pool.Pool.reclaim.Goals as goal

pub loop-account-preserved : goal.loop-account-preserved
loop-account-preserved c =
    let account : AccountValue = c.in-Some.account in
    let rest : List AccountValue = into_iter_items c.next.new.self in
    let law : account.free ≤ account.quota = search rules in
    let step : into_iter_items c.loop-account.account-iterator ≡ account ∷ rest = search rules in
    let kept = c.loop-account.invariant in
    let quotas = ap (sum_by quota_of) step ∙ sum_by-cons quota_of account rest in
    let leases = ap (sum_by leased) step ∙ sum_by-cons leased account rest in
    let frees = ap (sum_by free_of) step ∙ sum_by-cons free_of account rest in
    record {
      next = kept.next;
      finite = kept.finite;
      number = kept.number;
      quotas = omega (arith, kept.quotas, quotas, law, c.free-in-loop-account.ensures);
      counted = omega (arith, kept.counted, quotas, c.quota.ensures);
      missing = omega (arith, kept.missing, leases, c.quota.ensures, c.free.ensures);
      whole = λ none all.
          let is : IsWhole account = omega (arith, law, none, c.quota.ensures, c.free.ensures) in
          kept.whole (omega (arith, none)) (subst (λ (xs : List AccountValue). All IsWhole xs) (sym step) (All-cons IsWhole account rest is all));
      free = omega (arith, kept.free, frees, c.into_pages.ensures.given);
      out = omega (arith, kept.out, frees, kept.quotas, quotas, law, c.free-in-loop-account.ensures);
      room = omega (arith, kept.room, c.into_pages.ensures.given, c.into_pages.ensures.room, kept.quotas, quotas, law, c.free-in-loop-account.ensures);
    }

pub returns-clause-whole : goal.returns-clause-whole
returns-clause-whole c = (
  λ no. absurd (search rules),
  λ whole. absurd (c.if-missing-eq0.false (omega (arith, c.loop-account.invariant.missing, whole_lack_none c.args.accounts.items whole))),
)
