use Rattle.std.proofs.Common.{IsPermutation}
use Rattle.run_maker.proofs.sorting.move_to.Given as goal

abbrev pub invariant-loop : goal.invariant-loop
invariant-loop l = IsPermutation l.initial.pairs l.pairs
