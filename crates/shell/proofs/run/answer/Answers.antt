use Rattle.shell.proofs.Talking.{ends_all}
use Rattle.shell.proofs.run.answer.Goals as goal

pub returns-in-Some : goal.returns-in-Some
returns-in-Some g c =
    ends_all c.args.input.now c.await_table.new.input c.in-Some.slot_limit c.in-Some.parts.heap c.use_table.result c.requires
    (rw c.in-Some.is at c.in_ok-slot_limit.ensures) c.use_table.ensures
