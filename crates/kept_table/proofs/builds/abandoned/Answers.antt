use Rattle.std.proofs.Common.{subst, sym}
use Rattle.std.specs.Prelude.{IfErr, OnOk}
use Rattle.build_events.specs.CoreState.{CoreState}
use Rattle.build_events.specs.Steps.{Step}
use Rattle.build_events.specs.declared.event.Event.TheVariants.{Abandon}
use Rattle.build_events.specs.declared.reply.Reply.TheVariants.{Abandoned, Refused}
use Rattle.leased_core.specs.Leasing.{EndsBuild}
use Rattle.kept_table.proofs.builds.abandoned.Goals as goal

pub returns-clause-abandoned : goal.returns-clause-abandoned
returns-clause-abandoned g c =
    let Told : CoreState → CoreState → Type 0 = λ old new. OnOk c.abandon-abandoned.result (EndsBuild Abandon Abandoned old new) in
    subst (λ after. Told c.args.table.core after) (sym c.unname.ensures.core)
    (subst (λ before. Told before c.abandon-abandoned.new.self) c.open-named.ensures c.abandon-abandoned.ensures.abandoned)

pub returns-clause-refused : goal.returns-clause-refused
returns-clause-refused g c =
    let Told : CoreState → CoreState → Type 0 = λ old new. IfErr c.abandon-abandoned.result (λ fault. Step old Abandon (Refused fault) new) in
    subst (λ after. Told c.args.table.core after) (sym c.unname.ensures.core)
    (subst (λ before. Told before c.abandon-abandoned.new.self) c.open-named.ensures c.abandon-abandoned.ensures.refused)
