-- What each session of a race does, and what it leaves.
use Rattle.std.specs.Prelude.{◌≡◌, ◌==◌, ◌+◌, ℕ, zero, suc, List, [], ◌∷◌, ◌++◌, length, map, filter}
use mathlib.Core.List.{IsPrefix}
use Rattle.heap_log.specs.declared.record.LogRec.{LogRec}
use Rattle.script.specs.declared.race.session_command.SessionCommand.{SessionCommand}
use Rattle.script.specs.declared.race.session_step.SessionStep.{SessionStep}
use Rattle.race.specs.Commands.{HasEnded, Left}
use Rattle.race.specs.declared.session_line.SessionLine.{SessionLine}
use Rattle.race.specs.declared.session_script.SessionScript.{SessionScript}

-- a session's number, and its commands in their order
pub record Share : Type 0 where
  pub session : ℕ
  pub commands : List SessionCommand

abbrev pub share_of : SessionScript → Share
share_of script = record { session = script.session; commands = script.commands.items }

-- the commands of a session among the steps of all
abbrev pub commands_of : ℕ → List SessionStep → List SessionCommand
commands_of session steps = map (λ step. step.command) (filter (λ step. step.session == session) steps)

-- the share of a session with these commands, if it has any
abbrev pub share : ℕ → List SessionCommand → List Share
share session [] = []
share session (command ∷ commands) = record { session = session; commands = command ∷ commands } ∷ []

-- the shares of the first n sessions
abbrev pub shares : ℕ → List SessionStep → List Share
shares zero steps = []
shares (suc n) steps = shares n steps ++ share (suc n) (commands_of (suc n) steps)

-- these are the sessions that do something, each with its commands
abbrev pub AreSessionsOf : List SessionStep → List SessionScript → Type 0
AreSessionsOf steps sessions = map share_of sessions ≡ shares 8 steps

-- what a session leaves: what is told of it, what it knew of the log in the end, and its receipts, each as the beginning of the log that it stands for
pub record EndedValue : Type 0 where
  pub line : SessionLine
  pub left : Left

-- the session ran its commands, and knew at first a log that goes on from `opening`; it tells how many of them were accepted, and that the others were
-- refused
pub record HasRun (opening : List LogRec) (script : SessionScript) (ended : EndedValue) : Type 0 where
  pub session : ended.line.session ≡ script.session
  pub each : ended.line.accepted + ended.line.refused ≡ length script.commands.items
  pub first : List LogRec
  pub goes_on : IsPrefix opening first
  pub went : HasEnded script.commands.items first ended.line.accepted ended.left
