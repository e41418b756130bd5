use Rattle.std.proofs.Common.{subst, sym}
use Rattle.std.specs.Prelude.{IfErr, IfOk, IsSomeAnd}
use Rattle.build_events.specs.CoreState.{CoreState}
use Rattle.kept_table.specs.Decisions.{Decides, FailsToDecide}
use Rattle.kept_table.proofs.builds.switched.Goals as goal

pub returns-clause-decided : goal.returns-clause-decided
returns-clause-decided g c =
    let Told : CoreState → CoreState → Type 0 =
    λ old new. IfOk c.decide-number.result (λ number. IsSomeAnd c.decide-number.new.decided (λ told. Decides old number told new)) in
    subst (λ after. Told c.args.table.core after) (sym c.unname.ensures.core)
    (subst (λ before. Told before c.decide-number.new.counted) c.open-named.ensures c.decide-number.ensures.decided)

pub returns-clause-refused : goal.returns-clause-refused
returns-clause-refused g c =
    let Told : CoreState → CoreState → Type 0 = λ old new. IfErr c.decide-number.result (λ fault. FailsToDecide old fault new) in
    subst (λ after. Told c.args.table.core after) (sym c.unname.ensures.core)
    (subst (λ before. Told before c.decide-number.new.counted) c.open-named.ensures c.decide-number.ensures.refused)
