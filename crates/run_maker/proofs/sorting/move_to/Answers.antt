use Rattle.std.proofs.lemmas.List.Sorted.{IsPermutation-trans}
use Rattle.run_maker.proofs.sorting.move_to.Goals.{then-goal-place, else-goal-place+then-goal-count}
use Rattle.run_maker.proofs.sorting.move_to.Goals as goal

pub loop-preserved : goal.loop-preserved
loop-preserved c =
    elim c.if-goal-place.branch [
      | then-goal-place w ↦ rw w.pairs-is c.loop.invariant
      | else-goal-place+then-goal-count w ↦ rw w.pairs-is (IsPermutation-trans _ _ _ c.loop.invariant w.swap.ensures.permutation)
    ]
