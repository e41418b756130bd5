use Rattle.unique_verdict.proofs.CountingFacts.{tallied_none, tallied_more}
use Rattle.unique_verdict.proofs.tally.Tally.of.Goals as goal

pub loop-pair-init : goal.loop-pair-init
loop-pair-init c = tallied_none _ _ _ c.iter-pairs.ensures c.new-shared.ensures

pub loop-pair-preserved : goal.loop-pair-preserved
loop-pair-preserved c =
    tallied_more _ _ _ _ _ c.loop-pair.before c.in-Some.pair c.laws.ensures c.loop-pair.invariant c.in-Some.ensures.steps c.in_ok-count_next.ensures.shared
