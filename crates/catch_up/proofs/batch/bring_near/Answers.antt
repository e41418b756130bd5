use Rattle.std.proofs.Common.{rules}
use Rattle.std.proofs.lemmas.List.Sorted.{answers_always}
use Rattle.catch_up.specs.Batches.{head_of}
use Rattle.catch_up.proofs.Deciding.{same_by_number}
use Rattle.catch_up.proofs.batch.bring_near.Goals as goal

pub returns : goal.returns
returns c =
    same_by_number head_of _ _ (c.sort_by_cached_key.ensures.stable (λ e. head_of e.pair.key) (answers_always _ _ _ (λ f a r g h. search rules)))
