use Rattle.shell.proofs.Talking.{table_behind}
use Rattle.shell.proofs.answering.answer_line.Goals as goal

pub returns-in-Table : goal.returns-in-Table
returns-in-Table g c = rw c.in-Table.is (table_behind c.in-Table.table c.make_table-answer.result.0 c.make_table-answer.result.1 c.make_table-answer.ensures)
