use denote.Enum.Declared.{tag_of}
use Rattle.std.proofs.Common.{ℕ, List, Option, Some, None, IfSome, inr}
use Rattle.replay.proofs.Statuses.{numbered}
use Rattle.replay.specs.contracts.status.Status.{the_type}
use Rattle.replay.specs.declared.status.Status.{Status}
use Rattle.script.specs.RaceScripts.{SpellsRaceScript}
use Rattle.script.specs.declared.race.script.RaceScript.{RaceScript}
use Rattle.race.specs.Races.{EndsWith, ExitsWith}
use Rattle.race.proofs.run.race_watched.Goals as goal

-- where the text is known, it is that of the race that was run
exits : (workers : ℕ) (known : Option (List ℕ)) (script : RaceScript) (status : Status) → IfSome known (λ text. SpellsRaceScript text script)
    → EndsWith workers script status → IfSome known (λ text. ExitsWith workers text (tag_of the_type status))
exits workers None script status spelled ends = tt
exits workers (Some text) script status spelled ends = inr (script, status, spelled, ends, numbered status)

pub returns-in-Ok-run-clause-status : goal.returns-in-Ok-run-clause-status
returns-in-Ok-run-clause-status g c =
    exits c.args.workers (g.R.Read.remaining c.args.reader) c.in-Ok.script c.in-Ok-run.status c.in-Ok.ensures.good c.in-Ok-run.ensures
