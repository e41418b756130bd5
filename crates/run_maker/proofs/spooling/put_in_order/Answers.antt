use Rattle.std.proofs.lemmas.List.Sorted.{IsPermutation-trans, length_permutation}
use Rattle.run_maker.proofs.spooling.put_in_order.Goals as goal

pub returns-then-is_err-clause-permutation : goal.returns-then-is_err-clause-permutation
returns-then-is_err-clause-permutation g c = IsPermutation-trans _ _ _ c.sort.ensures.permutation c.sort_unstable.ensures.permutation

pub returns-then-is_err-clause-len : goal.returns-then-is_err-clause-len
returns-then-is_err-clause-len g c = length_permutation _ _ (returns-then-is_err-clause-permutation g c)

pub returns-else-is_err-clause-len : goal.returns-else-is_err-clause-len
returns-else-is_err-clause-len g c = length_permutation _ _ c.sort.ensures.permutation
