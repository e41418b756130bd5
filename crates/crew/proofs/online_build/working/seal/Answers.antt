use Rattle.std.proofs.lemmas.Result.{err_from_is_err_and}
use Rattle.crew.proofs.online_build.working.seal.Goals as goal

pub returns-clause-sealed : goal.returns-clause-sealed
returns-clause-sealed g c = record {
  seen = c.look.result;
  looked = c.look.new.self;
  looks = c.look.ensures;
  images = c.in_ok-seal_with.field-0;
  does = c.in_ok-seal_with.ensures.0;
}

pub returns-in_err-seal_with-clause-stopped : goal.returns-in_err-seal_with-clause-stopped
returns-in_err-seal_with-clause-stopped g c =
    let told = err_from_is_err_and c.from_residual.result c.from_residual.ensures.1 in
    rw (told.1, told.2) (record { seen = c.look.result; looked = c.look.new.self; looks = c.look.ensures; stops = c.in_err-seal_with.ensures.1 })
