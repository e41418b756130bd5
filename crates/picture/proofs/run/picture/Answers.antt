use denote.Enum.Declared.{tag_of}
use Rattle.std.proofs.Common.{◌≡◌, ◌∙◌, ℕ, List, Option, Some, None, IfSome, inr, subst}
use Rattle.script.specs.Scripts.{SpellsScript}
use Rattle.script.specs.declared.script.Script.{Script}
use Rattle.replay.proofs.Statuses.{numbered}
use Rattle.replay.specs.Sessions.{EndsWith, ExitsWith}
use Rattle.replay.specs.contracts.status.Status.{the_type}
use Rattle.replay.specs.declared.status.Status.{Status}
use Rattle.picture.proofs.run.picture.Goals as goal

-- where the text is known, it is that of the script that was run
exits : (known : Option (List ℕ)) (bytes parsed : List ℕ) (script : Script) (status : Status) → IfSome known (λ text. bytes ≡ text) → parsed ≡ bytes
    → SpellsScript parsed script → EndsWith script.table script.commands.items status → IfSome known (λ text. ExitsWith text (tag_of the_type status))
exits None bytes parsed script status known_is parsed_is spelled ends = tt
exits (Some text) bytes parsed script status known_is parsed_is spelled ends =
    inr (script, status, subst (λ (spelling : List ℕ). SpellsScript spelling script) (parsed_is ∙ known_is) spelled, ends, numbered status)

pub returns-in-Ok-run-clause-status : goal.returns-in-Ok-run-clause-status
returns-in-Ok-run-clause-status g c =
    exits (g.R.Read.remaining c.args.reader) c.in-Ok.text.items c.as_slice.result.now c.in-Ok-parse.script c.in-Ok-run.status c.in-Ok.ensures.text c.as_slice.ensures.value
    c.in-Ok-parse.ensures.good c.in-Ok-run.ensures
