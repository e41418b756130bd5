use Rattle.shell.proofs.Given.{gives_none}
use Rattle.shell.proofs.input.Input.read_next.Goals as goal

pub loop-init : goal.loop-init
loop-init g c = (gives_none c.args.self.now, c.requires, (λ some. some))
