use Rattle.std.proofs.Common.{sym, ◌∙◌}
use Rattle.crew.specs.Working.{IsSealed}
use Rattle.crew.proofs.Results.{ok_from_none}
use Rattle.crew.proofs.online_build.threads.run.Goals as goal

pub returns-clause-sealed : goal.returns-clause-sealed
returns-clause-sealed g c = λ none.
    ok_from_none c.work.result (IsSealed c.work.new.worker) (sym c.err-fault.ensures.value ∙ none) c.work.ensures.sealed
