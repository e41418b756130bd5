use Rattle.kept_table.proofs.Rounds.{HadTurns}
use Rattle.kept_table.proofs.catching_up.catch_up.Given as goal

abbrev pub invariant-loop-index : goal.invariant-loop-index
invariant-loop-index g l = HadTurns l.most l.waited l.index l.fn.counted l.counted
