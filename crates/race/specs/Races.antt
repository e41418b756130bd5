-- How a race ends.
use Rattle.std.specs.Prelude.{◌≡◌, ◌⊎◌, ℕ, List, [], Result, Ok, Err, None, if◌then◌else◌}
use Rattle.std.specs.List.{list_any}
use Rattle.keybytes.specs.declared.fault.Fault.{Fault}
use Rattle.heap_log.specs.declared.record.LogRec.{LogRec}
use Rattle.replay.specs.Limits.{is_refusal, table_refusal}
use Rattle.replay.specs.Sessions.{number_of}
use Rattle.replay.specs.declared.status.Status.{Status}
use Rattle.replay.specs.declared.status.Status.TheVariants.{Done, IndexRefused, Failed}
use Rattle.script.specs.RaceScripts.{SpellsRaceScript}
use Rattle.script.specs.declared.race.script.RaceScript.{RaceScript}
use Rattle.race.specs.Builds.{EndsBuild}
use Rattle.race.specs.OneLog.{IsToldOf}
use Rattle.race.specs.Rows.{HasPutRows}
use Rattle.race.specs.Sessions.{AreSessionsOf}
use Rattle.race.specs.declared.outcome.Outcome.{Outcome}
use Rattle.race.specs.declared.race_report.RaceReport.{RaceReport}
use Rattle.race.specs.declared.session_script.SessionScript.{SessionScript}

-- done where every index became ready, and refused where one was refused or the build was given up
abbrev pub status_after : Result Outcome Fault → Status
status_after (Ok outcome) = if list_any is_refusal outcome.verdicts then IndexRefused else Done
status_after (Err fault) = IndexRefused

-- the race of that script was run with so many workers, and this is reported of it
pub record IsReportOf (workers : ℕ) (script : RaceScript) (report : RaceReport) : Type 0 where
  pub table : table_refusal script.table ≡ None
  -- the log that the table had when sessions and build began
  pub opening : List LogRec
  pub rows : HasPutRows script.rows.items [] opening
  pub scripts : List SessionScript
  pub split : AreSessionsOf script.steps.items scripts
  pub told : IsToldOf opening (λ switched. EndsBuild opening switched workers script.table.kinds.items script.build report.build) scripts report
  pub pages : report.pages ≡ 0

-- the race was run and ended with that status, or something failed
abbrev pub EndsWith : ℕ → RaceScript → Status → Type 0
EndsWith workers script status = (status ≡ Failed) ⊎ ((report : RaceReport) × IsReportOf workers script report × (status ≡ status_after report.build))

-- the exit status of a text: 2, or that of the race that it spells
abbrev pub ExitsWith : ℕ → List ℕ → ℕ → Type 0
ExitsWith workers text number =
    (number ≡ 2)
    ⊎ ((script : RaceScript) × (status : Status) × SpellsRaceScript text script × EndsWith workers script status × (number ≡ number_of status))
