use Rattle.std.proofs.lemmas.List.Sorted.{IsPermutation-trans}
use Rattle.run_maker.proofs.std_sort.StdSortRunSort.sort.Goals as goal

pub returns-clause-permutation : goal.returns-clause-permutation
returns-clause-permutation c = IsPermutation-trans _ _ _ c.bring_near.ensures c.sort_unstable.ensures.permutation
