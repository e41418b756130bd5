use Rattle.std.proofs.Common.{arith, subst, sym, ◌∙◌}
use Rattle.std.proofs.lemmas.List.Elements.{All-more}
use Rattle.std.proofs.lemmas.List.{take_all, get_or_read}
use Rattle.std.specs.List.{All}
use Rattle.bench.specs.Verdicts.{IsReady}
use Rattle.heap_log.specs.declared.outcome.Outcome.TheVariants.{Ready}
use Rattle.bench.proofs.subject.are_ready.Goals as goal

pub loop-index-preserved : goal.loop-index-preserved
loop-index-preserved c =
    All-more IsReady c.args.verdicts.now c.loop-index.index (Ready 0) c.loop-index-test.true c.loop-index.invariant (
      c.in-Ready.field-0,
      sym (get_or_read c.args.verdicts.now c.loop-index.index c.index-verdicts-index.result c.loop-index-test.true c.index-verdicts-index.is (Ready 0)) ∙ c.in-Ready.is,
    )

pub returns : goal.returns
returns c = subst (All IsReady) (take_all c.loop-index.index c.args.verdicts.now (omega (arith, c.loop-index-test.false))) c.loop-index.invariant
