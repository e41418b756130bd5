use Rattle.shell.proofs.Talking.{leaves}
use Rattle.shell.proofs.run.converse.Goals as goal

pub returns : goal.returns
returns g c =
    leaves (g.R.Read.remaining c.args.reader) c.in_ok-input.input c.answer.result c.in_ok-input.ensures.0 c.in_ok-input.ensures.1 c.answer.ensures
