use denote.Enum.Declared.{tag_of}
use Rattle.std.proofs.Common.{◌≡◌, ℕ, List, Option, Some, None, IfSome, inr, refl}
use Rattle.replay.specs.Sessions.{number_of}
use Rattle.replay.specs.contracts.status.Status.{the_type}
use Rattle.replay.specs.declared.status.Status.{Status}
use Rattle.replay.specs.declared.status.Status.TheVariants.{Done, IndexRefused, Failed}
use Rattle.shell.specs.Conversations.{Leaves, LeavesWith}
use Rattle.shell.proofs.run.shell.Goals as goal

-- a status as a number is the number that contracts give it
numbered : (status : Status) → tag_of the_type status ≡ number_of status
numbered Done = refl
numbered IndexRefused = refl
numbered Failed = refl

-- where the text is known, the conversation was over it
exits : (known : Option (List ℕ)) (status : Status) → IfSome known (λ text. Leaves text status)
    → IfSome known (λ text. LeavesWith text (tag_of the_type status))
exits None status leaves = tt
exits (Some text) status leaves = inr (status, leaves, numbered status)

pub returns-in-Ok-clause-status : goal.returns-in-Ok-clause-status
returns-in-Ok-clause-status g c = exits (g.R.Read.remaining c.args.reader) c.in-Ok.status c.in-Ok.ensures
