use Rattle.std.proofs.Common.{◌≡◌, true, take}
use Rattle.std.specs.List.{list_all}
use Rattle.run_spool.specs.Spools.{holds_nothing}
use Rattle.run_spool.proofs.many.are_empty.Given as goal

abbrev pub invariant-loop-spool : goal.invariant-loop-spool
invariant-loop-spool g l = list_all (λ spool. holds_nothing (g.S.Spool.runs spool) (g.S.Spool.open_run spool)) (take l.spool-index l.spools) ≡ true
