use Rattle.std.proofs.Common.{◌≡◌, true, false, sym, subst}
use Rattle.std.specs.Prelude.{IfErr, IfOk, IsSomeAnd}
use Rattle.build_events.specs.CoreState.{CoreState}
use Rattle.kept_table.specs.Pieces.{DoesPiece, FailsToAdvance, NotesWaits, WorksToTheEnd}
use Rattle.kept_table.proofs.advancing.advanced.Goals as goal

pub returns-clause-ready : goal.returns-clause-ready
returns-clause-ready g c =
    let Told : CoreState → CoreState → Type 0 = λ old new. IfOk c.advance-ready.result (λ ready. ready ≡ true
    → IsSomeAnd c.advance-ready.new.decided (λ told. WorksToTheEnd c.args.most c.args.waited.now old told new)) in
    subst (λ after. Told c.args.table.core after) (sym c.unname.ensures.core)
    (subst (λ before. Told before c.advance-ready.new.counted) c.open-named.ensures c.advance-ready.ensures.ready)

pub returns-clause-goes_on : goal.returns-clause-goes_on
returns-clause-goes_on g c =
    let Told : CoreState → CoreState → Type 0 = λ old new. IfOk c.advance-ready.result (λ ready. ready ≡ false
    → DoesPiece c.args.most c.args.waited.now old new × (c.advance-ready.new.decided ≡ c.args.decided.now)) in
    subst (λ after. Told c.args.table.core after) (sym c.unname.ensures.core)
    (subst (λ before. Told before c.advance-ready.new.counted) c.open-named.ensures c.advance-ready.ensures.goes_on)

pub returns-clause-waits : goal.returns-clause-waits
returns-clause-waits g c =
    let Told : CoreState → CoreState → Type 0 = λ old new. IfOk c.advance-ready.result (λ ready. ready ≡ false
    → NotesWaits old c.args.waited.now new c.advance-ready.new.waited) in
    subst (λ after. Told c.args.table.core after) (sym c.unname.ensures.core)
    (subst (λ before. Told before c.advance-ready.new.counted) c.open-named.ensures c.advance-ready.ensures.waits)

pub returns-clause-refused : goal.returns-clause-refused
returns-clause-refused g c =
    let Told : CoreState → CoreState → Type 0 =
    λ old new. IfErr c.advance-ready.result (λ fault. FailsToAdvance c.args.most c.args.waited.now old fault new c.advance-ready.new.waited) in
    subst (λ after. Told c.args.table.core after) (sym c.unname.ensures.core)
    (subst (λ before. Told before c.advance-ready.new.counted) c.open-named.ensures c.advance-ready.ensures.refused)
