use Rattle.shell.proofs.answering.answer_before_table.Goals as goal

pub returns-in-Good : goal.returns-in-Good
returns-in-Good g c = rw c.in-Good.is c.answer_line.ensures
