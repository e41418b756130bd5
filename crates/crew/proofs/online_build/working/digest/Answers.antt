use Rattle.std.proofs.lemmas.Result.{err_from_is_err_and}
use Rattle.crew.proofs.online_build.working.digest.Goals as goal

pub returns-clause-digested : goal.returns-clause-digested
returns-clause-digested g c = record {
  seen = c.look.result;
  looked = c.look.new.self;
  looks = c.look.ensures;
  images = c.in_ok-digest_with.field-0;
  does = c.in_ok-digest_with.ensures.0;
}

pub returns-in_err-digest_with-clause-stopped : goal.returns-in_err-digest_with-clause-stopped
returns-in_err-digest_with-clause-stopped g c =
    let told = err_from_is_err_and c.from_residual.result c.from_residual.ensures.1 in
    rw (told.1, told.2) (record { seen = c.look.result; looked = c.look.new.self; looks = c.look.ensures; stops = c.in_err-digest_with.ensures.1 })
