use denote.Enum.Declared.{tag_of}
use Rattle.std.proofs.Common.{ℕ, List, Option, Some, None, IfSome, inr}
use Rattle.script.specs.Scripts.{SpellsScript}
use Rattle.script.specs.declared.script.Script.{Script}
use Rattle.replay.proofs.Statuses.{numbered}
use Rattle.replay.specs.Sessions.{EndsWith, ExitsWith}
use Rattle.replay.specs.contracts.status.Status.{the_type}
use Rattle.replay.specs.declared.status.Status.{Status}
use Rattle.replay.proofs.run.replay.Goals as goal

-- where the text is known, it is that of the script that was run
exits : (known : Option (List ℕ)) (script : Script) (status : Status) → IfSome known (λ text. SpellsScript text script)
    → EndsWith script.table script.commands.items status → IfSome known (λ text. ExitsWith text (tag_of the_type status))
exits None script status spelled ends = tt
exits (Some text) script status spelled ends = inr (script, status, spelled, ends, numbered status)

pub returns-in-Ok-run-clause-status : goal.returns-in-Ok-run-clause-status
returns-in-Ok-run-clause-status g c = exits (g.R.Read.remaining c.args.reader) c.in-Ok.script c.in-Ok-run.status c.in-Ok.ensures.good c.in-Ok-run.ensures
