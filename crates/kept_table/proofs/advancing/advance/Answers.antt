use Rattle.std.proofs.Common.{refl}
use Rattle.kept_table.proofs.Deciding.{notes_none}
use Rattle.kept_table.proofs.advancing.advance.Goals as goal

pub returns-in-Ok-true-clause-goes_on : goal.returns-in-Ok-true-clause-goes_on
returns-in-Ok-true-clause-goes_on g c = λ is. (c.in-Ok-true.ensures.done c.in-Ok-true.field-0-test c.args.most c.args.waited.now, refl)

pub returns-in-Ok-true-clause-waits : goal.returns-in-Ok-true-clause-waits
returns-in-Ok-true-clause-waits g c = λ is.
    notes_none c.args.counted.now c.prepare.new.counted c.args.waited.now (c.in-Ok-true.ensures.due c.in-Ok-true.field-0-test)
