use Rattle.std.proofs.Common.{List, ◌+◌}
use Rattle.replay.specs.Sessions.{RunsAll, state_of}
use Rattle.script.specs.declared.input_record.InputRecord.{InputRecord}
use Rattle.shell.specs.Conversations.{GoesOn, commands_told}
use Rattle.shell.specs.Inputs.{Gives}
use Rattle.shell.proofs.run.answer_all.Given as goal

abbrev pub invariant-loop : goal.invariant-loop
invariant-loop g l =
    (told : List InputRecord) × Gives l.fn.input told l.input × GoesOn told
    × RunsAll (state_of l.fn.leased l.fn.session) (commands_told (l.fn.input.given + 1) told) (state_of l.leased l.session)
