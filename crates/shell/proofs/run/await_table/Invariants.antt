use Rattle.std.proofs.Common.{List}
use Rattle.std.specs.List.{All}
use Rattle.script.specs.declared.input_record.InputRecord.{InputRecord}
use Rattle.shell.specs.Conversations.{GoesOn, MakesNone}
use Rattle.shell.specs.Inputs.{Gives}
use Rattle.shell.proofs.run.await_table.Given as goal

abbrev pub invariant-loop : goal.invariant-loop
invariant-loop g l = (told : List InputRecord) × Gives l.fn.input told l.input × GoesOn told × All MakesNone told
