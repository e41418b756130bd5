-- At rest nothing is guarded.
use Rattle.key_guards.proofs.Following.{guarded_at_rest}
use Rattle.key_guards.proofs.Refusals.{rows_have_own_keys}
use Rattle.key_guards.proofs.guards.Guards.new.Goals as goal

pub returns-clause-rows : goal.returns-clause-rows
returns-clause-rows c = λ spec s holds rest unique. guarded_at_rest spec s _ holds rest unique c.new.ensures.items

pub returns-clause-pairs : goal.returns-clause-pairs
returns-clause-pairs c = λ spec s holds rest own. guarded_at_rest spec s _ holds rest (rows_have_own_keys spec s.log own) c.new.ensures.items
