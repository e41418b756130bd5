use Rattle.std.proofs.Common.{subst, sym}
use Rattle.std.specs.Prelude.{IfOk}
use Rattle.build_events.specs.CoreState.{CoreState}
use Rattle.build_events.specs.declared.reply.Reply.TheVariants.{Started}
use Rattle.leased_core.specs.Leasing.{StartsOver}
use Rattle.kept_table.proofs.builds.started.Goals as goal

pub returns-clause-started : goal.returns-clause-started
returns-clause-started g c =
    let Told : CoreState → CoreState → Type 0 =
    λ old new. IfOk c.start_in_limits-started.result (λ pages. StartsOver c.args.choice c.args.quota c.args.plan old (Started pages) new) in
    subst (λ after. Told c.args.table.core after) (sym c.unname.ensures.core)
    (subst (λ before. Told before c.start_in_limits-started.new.counted) c.open-named.ensures c.start_in_limits-started.ensures.started)
