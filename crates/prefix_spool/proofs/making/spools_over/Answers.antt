use Rattle.std.proofs.Common.{All, rules, subst, ◌∙◌}
use Rattle.std.proofs.lemmas.List.Elements.{All-tail}
use Rattle.spool_ledger.specs.Accounts.{IsWhole}
use Rattle.prefix_spool.proofs.Chosen.{kind_more, made_more}
use Rattle.prefix_spool.proofs.making.spools_over.Goals as goal

pub loop-account-preserved : goal.loop-account-preserved
loop-account-preserved c =
    let first = c.in-Some.ensures.steps.0 in
    record {
      next = search rules;
      finite = search rules;
      whole = All-tail IsWhole c.in-Some.account _ (subst (All IsWhole) first c.loop-account.invariant.whole);
      made = made_more _ _ _ _ _ c.in-Some.account c.in-Ok.spool c.loop-account.invariant.made first c.in-Ok.ensures.made c.push_reserved.ensures.items;
      kinds = kind_more _ _ _ _ _ _ c.in-Some.account c.in-Ok.spool _ c.loop-account.invariant.kinds first (c.len-in-loop-account.ensures ∙ search rules)
          (c.in-Ok.ensures.kind ∙ c.kind_at.ensures) c.push_reserved.ensures.items;
      room = search rules;
    }
