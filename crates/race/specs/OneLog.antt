-- What build and sessions of a race leave, and how it stands in the log of their table.
use Rattle.std.specs.Prelude.{◌≡◌, ◌-◌, List, ◌++◌, length, map, flat_map, Option, Result, IfSome}
use Rattle.std.specs.List.{All, AllZip, Contains}
use Rattle.std.specs.Option.{option_to_list}
use mathlib.Core.List.{IsPrefix}
use Rattle.crew.specs.Receipts.{missing_of}
use Rattle.heap_log.specs.declared.record.LogRec.{LogRec}
use Rattle.keybytes.specs.declared.fault.Fault.{Fault}
use Rattle.race.specs.Builds.{EndsPlanned}
use Rattle.race.specs.Resting.{AreCheckedIn}
use Rattle.race.specs.Sessions.{EndedValue, HasRun}
use Rattle.race.specs.declared.outcome.Outcome.{Outcome}
use Rattle.race.specs.declared.planned.Planned.{Planned}
use Rattle.race.specs.declared.race_report.RaceReport.{RaceReport}
use Rattle.race.specs.declared.session_line.SessionLine.{SessionLine}
use Rattle.race.specs.declared.session_script.SessionScript.{SessionScript}

-- the receipts of all sessions
abbrev pub receipts_of : List EndedValue → List (List LogRec)
receipts_of sessions = flat_map (λ it. it.left.receipts) sessions

-- Sessions ran their scripts, and this was gathered of them: a line of each, what each knew of the log in the end, and receipts, those that were there
-- first and some of the sessions' own
pub record AreGathered
    (opening : List LogRec) (first : List (List LogRec)) (scripts : List SessionScript) (lines : List SessionLine) (known receipts : List (List LogRec))
    : Type 0 where
  pub sessions : List EndedValue
  pub ran : AllZip (HasRun opening) scripts sessions
  pub lines_are : lines ≡ map (λ it. it.line) sessions
  pub known_are : known ≡ map (λ it. it.left.log) sessions
  pub kept : All (Contains receipts) first
  pub own : All (Contains (first ++ receipts_of sessions)) receipts

-- receipts were put behind others, all of these or some
abbrev pub HasKept : List (List LogRec) → List (List LogRec) → List (List LogRec) → Type 0
HasKept old receipts new = (kept : List (List LogRec)) × (new ≡ old ++ kept) × All (Contains receipts) kept

-- build and sessions of a race left this, before the table is closed
pub record AreLeft
    (opening : List LogRec) (planned : Result Planned Fault) (scripts : List SessionScript) (build : Result Outcome Fault) (lines : List SessionLine)
    (known receipts : List (List LogRec))
    : Type 0 where
  pub switched : Option (List LogRec)
  pub built : EndsPlanned opening switched planned build
  pub gathered : AreGathered opening (option_to_list switched) scripts lines known receipts

-- A race is told so, over one log, that of its table in the end, which goes on from `opening`. What the build was decided by, and what each session knew
-- in the end, is a beginning of it; the records that are told as missing are those of it that no receipt which was handed in is for, and each of these is
-- the build's or a session's
pub record IsToldOf (opening : List LogRec) (HasBuilt : Option (List LogRec) → Type 0) (scripts : List SessionScript) (report : RaceReport) : Type 0 where
  pub log : List LogRec
  pub goes_on : IsPrefix opening log
  pub switched : Option (List LogRec)
  pub built : HasBuilt switched
  pub decided : IfSome switched (λ behind. IsPrefix behind log)
  pub sessions : List EndedValue
  pub ran : AllZip (HasRun opening) scripts sessions
  pub lines : report.sessions.items ≡ map (λ it. it.line) sessions
  pub knew : All (λ it. IsPrefix it.left.log log) sessions
  pub receipts : List (List LogRec)
  pub own : All (Contains (option_to_list switched ++ receipts_of sessions)) receipts
  pub missing : report.receipts ≡ missing_of receipts (length opening) (length log - length opening)
  pub checks : AreCheckedIn opening log report.checks.items
