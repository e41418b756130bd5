use Rattle.std.proofs.Common.{sym, ◌∙◌}
use Rattle.unique_verdict.proofs.TreeSets.{shared_now}
use Rattle.unique_verdict.proofs.VerdictFacts.{unique_none, never_one, least_two}
use Rattle.unique_verdict.proofs.tally.Tally.verdict.Goals as goal

pub returns-in_default-clause-is : goal.returns-in_default-clause-is
returns-in_default-clause-is c = λ pairs o f. unique_none pairs _ (sym c.self.view_is ∙ sym c.iter-pairs.ensures ∙ c.in_default.ensures.steps.0) (f
    ∙ shared_now pairs o)

pub returns-in_default-next-clause-is : goal.returns-in_default-next-clause-is
returns-in_default-next-clause-is c = λ pairs o f.
    absurd (never_one c.in-Some.first.now pairs _ _ (sym c.self.view_is ∙ sym c.iter-pairs.ensures
    ∙ c.in-Some.ensures.steps) c.in_default-next.ensures.steps.0 (f ∙ shared_now pairs o))

pub returns-clause-is : goal.returns-clause-is
returns-clause-is c = λ pairs o f.
    least_two c.in-Some.first.now c.in-Some-next.second.now pairs _ _ _ o (f ∙ shared_now pairs o) (sym c.self.view_is ∙ sym c.iter-pairs.ensures
    ∙ c.in-Some.ensures.steps)
    c.in-Some-next.ensures.steps _ c.in_ok-clone.ensures.same
