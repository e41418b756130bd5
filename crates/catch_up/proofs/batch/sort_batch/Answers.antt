use Rattle.std.proofs.Common.{rules, ◌∙◌}
use Rattle.std.proofs.lemmas.List.Sorted.{answers_always, ranks_by}
use Rattle.keybytes.proofs.PairSets.{pairs_total}
use Rattle.catch_up.proofs.Deciding.{before, same_when_stable}
use Rattle.btree.proofs.SortedChanges.{sorted_in_order}
use Rattle.catch_up.proofs.batch.sort_batch.Goals as goal

pub returns-in-Ok-clause-same : goal.returns-in-Ok-clause-same
returns-in-Ok-clause-same c =
    let sorted = c.sort_by-sorted.ensures.stable before (ranks_by pairs_total (λ e. e.pair)) (answers_always _ _ _ (λ f a r g h. search rules)) in
    λ pairs. same_when_stable _ _ sorted pairs ∙ c.bring_near.ensures pairs

pub returns-in-Err-clause-same : goal.returns-in-Err-clause-same
returns-in-Err-clause-same c =
    let sorted = c.sort_by-sorted.ensures.stable before (ranks_by pairs_total (λ e. e.pair)) (answers_always _ _ _ (λ f a r g h. search rules)) in
    λ pairs. same_when_stable _ _ sorted pairs ∙ c.bring_near.ensures pairs

pub returns-in-Ok-clause-order : goal.returns-in-Ok-clause-order
returns-in-Ok-clause-order c =
    sorted_in_order _ (c.in-Ok.ensures.sorted before (ranks_by pairs_total (λ e. e.pair)) (answers_always _ _ _ (λ f a r g h. search rules)))
