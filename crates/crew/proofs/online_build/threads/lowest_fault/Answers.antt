use Rattle.std.proofs.Common.{sym, ap, ◌∙◌}
use Rattle.crew.proofs.Returned.{first_behind, none_from}
use Rattle.crew.proofs.online_build.threads.lowest_fault.Goals as goal

pub loop-number-preserved : goal.loop-number-preserved
loop-number-preserved g c =
    let none = none_from _ (sym c.is_some.ensures ∙ c.if-is_some.false) in
    record {
      none_yet = c.loop-number.invariant.none_yet
          ∙ first_behind (λ one. one.fault) c.args.back.now c.loop-number.number c.index-back-number.result c.loop-number-test.true c.index-back-number.is
          (ap (λ one. one.fault) c.index-back-number.is ∙ none);
    }
