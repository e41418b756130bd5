-- What holds of guards that follow a log.
use Rattle.key_guards.proofs.Following.{guarded_switch, keys_are_guarded}
use Rattle.key_guards.proofs.guards.Guards.laws.Goals as goal

pub returns-clause-switched : goal.returns-clause-switched
returns-clause-switched c = λ spec log verdicts undos h. guarded_switch spec log verdicts _ undos h

pub returns-clause-guarded : goal.returns-clause-guarded
returns-clause-guarded c = λ spec s holds h. keys_are_guarded spec s _ holds h
