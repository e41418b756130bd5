-- What is reported of a race as a whole.
use Rattle.std.proofs.Common.{◌≡◌, ◌-◌, ℕ, List, [], All, length, take, Some, None, Option, Result, Ok, Err, inl, inr, subst, sym}
use Rattle.std.specs.Prelude.{Contains, IfOk, IfSome, option_to_list}
use Rattle.std.proofs.lemmas.List.Elements.{All-contains, All-head}
use mathlib.Core.List.{IsPrefix}
use Rattle.keybytes.specs.declared.fault.Fault.{Fault}
use Rattle.keybytes.specs.declared.kind.Kind.{Kind}
use Rattle.crew.specs.Receipts.{missing_of}
use Rattle.crew.specs.Reports.{EndsFor}
use Rattle.heap_log.specs.declared.record.LogRec.{LogRec}
use Rattle.replay.specs.Limits.{table_refusal}
use Rattle.script.specs.declared.race.build.Build.{Build}
use Rattle.script.specs.declared.race.script.RaceScript.{RaceScript}
use Rattle.race.specs.Builds.{EndsBuild, EndsPlanned, IsOutcomeIn, PlansBuild}
use Rattle.race.specs.OneLog.{AreLeft, IsToldOf}
use Rattle.race.specs.Races.{IsReportOf}
use Rattle.race.specs.Resting.{AreCheckedIn}
use Rattle.race.specs.Rows.{HasPutRows}
use Rattle.race.specs.Sessions.{AreSessionsOf, EndedValue}
use Rattle.race.specs.declared.outcome.Outcome.{Outcome}
use Rattle.run_spool.specs.declared.choice.SpoolChoice.{SpoolChoice}
use Rattle.race.specs.declared.planned.Planned.{Planned}
use Rattle.race.specs.declared.session_script.SessionScript.{SessionScript}
use Rattle.race.specs.declared.race_report.RaceReport.{RaceReport}
use Rattle.race.proofs.Gathering.{all_mapped_back, prefix_from_take}

-- a planned build ends as the build that was asked for
pub ends_build : (opening : List LogRec) (switched : Option (List LogRec)) (workers : ℕ) (schema : List Kind) (choice : SpoolChoice) (build : Build)
    (planned : Result Planned Fault) (ended : Result Outcome Fault)
    → PlansBuild workers schema choice build planned → EndsPlanned opening switched planned ended → EndsBuild opening switched workers schema build ended
ends_build opening switched workers schema choice build (Ok planned) (Ok outcome) plan ends =
    (plan.limits, subst (λ specs. IsOutcomeIn opening specs switched outcome) plan.specs ends)
ends_build opening switched workers schema choice build (Ok planned) (Err fault) plan ends =
    (ends.0, inr (plan.limits, subst (λ specs. EndsFor specs fault) plan.specs ends.1))
ends_build opening switched workers schema choice build (Err fault) ended plan ends =
    subst (EndsBuild opening switched workers schema build) (sym ends.0) (ends.1, inl plan)

-- what was decided is behind the receipt that came first
begins_in : (log : List LogRec) (switched : Option (List LogRec)) (receipts : List (List LogRec)) → All (λ r. take (length r) log ≡ r) receipts
    → All (Contains receipts) (option_to_list switched) → IfSome switched (λ behind. IsPrefix behind log)
begins_in log None receipts begin kept = tt
begins_in log (Some behind) receipts begin kept =
    prefix_from_take behind log (All-contains (λ (r : List LogRec). take (length r) log ≡ r) receipts behind begin (All-head (Contains receipts) behind [] kept))

-- what build and sessions left, and what the closed table tells of it, is told over one log
pub told_over :
    (opening log : List LogRec) (planned : Result Planned Fault) (scripts : List SessionScript) (report : RaceReport) (known receipts : List (List LogRec))
    → AreLeft opening planned scripts report.build report.sessions.items known receipts → IsPrefix opening log
    → All (λ r. take (length r) log ≡ r) receipts → All (λ k. take (length k) log ≡ k) known
    → report.receipts ≡ missing_of receipts (length opening) (length log - length opening) → AreCheckedIn opening log report.checks.items
    → IsToldOf opening (λ switched. EndsPlanned opening switched planned report.build) scripts report
told_over opening log planned scripts report known receipts left goes_on begin knew missing checks =
    let gathered = left.gathered in
    record {
      log = log;
      goes_on = goes_on;
      switched = left.switched;
      built = left.built;
      decided = begins_in log left.switched receipts begin gathered.kept;
      sessions = gathered.sessions;
      ran = gathered.ran;
      lines = gathered.lines_are;
      knew = λ k d within.
          prefix_from_take _ log
          (all_mapped_back (λ (l : List LogRec). take (length l) log ≡ l) (λ (it : EndedValue). it.left.log) gathered.sessions known gathered.known_are knew k d within);
      receipts = receipts;
      own = gathered.own;
      missing = missing;
      checks = checks;
    }

-- what holds of each part of a report holds of all
pub whole_report :
    (workers : ℕ) (script : RaceScript) (opening : List LogRec) (planned : Result Planned Fault) (scripts : List SessionScript) (result : Result RaceReport Fault)
    → table_refusal script.table ≡ None → HasPutRows script.rows.items [] opening → PlansBuild workers script.table.kinds.items script.choice script.build planned
    → AreSessionsOf script.steps.items scripts
    → IfOk result (λ report. report.pages ≡ 0)
    → IfOk result (λ report. IsToldOf opening (λ switched. EndsPlanned opening switched planned report.build) scripts report)
    → IfOk result (IsReportOf workers script)
whole_report workers script opening planned scripts (Err fault) table rows plan of pages told = tt
whole_report workers script opening planned scripts (Ok report) table rows plan of pages told = record {
  table = table;
  opening = opening;
  rows = rows;
  scripts = scripts;
  split = of;
  told = record {
    log = told.log;
    goes_on = told.goes_on;
    switched = told.switched;
    built = ends_build opening told.switched workers script.table.kinds.items script.choice script.build planned report.build plan told.built;
    decided = told.decided;
    sessions = told.sessions;
    ran = told.ran;
    lines = told.lines;
    knew = told.knew;
    receipts = told.receipts;
    own = told.own;
    missing = told.missing;
    checks = told.checks;
  };
  pages = pages;
}
