-- The build of a race.
use Rattle.std.specs.Prelude.{◌≡◌, ◌≢◌, ◌⊎◌, ℕ, ◌*◌, List, [], true, false, vec_len, map, Option, Some, None, Result, Ok, Err}
use Rattle.std.specs.List.{All}
use Rattle.keybytes.specs.Keys.{KeySpecValue}
use Rattle.keybytes.specs.declared.fault.Fault.{Fault}
use Rattle.keybytes.specs.declared.fault.Fault.TheVariants.{BadCount, Memory}
use Rattle.keybytes.specs.declared.kind.Kind.{Kind}
use Rattle.keybytes.specs.declared.pair.Pair.{Pair}
use Rattle.heap_log.specs.declared.record.LogRec.{LogRec}
use Rattle.crew.specs.Reports.{EndsFor, IsReport}
use Rattle.leased_core.specs.Leasing.{AreOf, LeasesValue, new_spools, spools_of_kinds, stake_in}
use Rattle.replay.specs.Limits.{is_in_limits}
use Rattle.replay.specs.Listings.{ListsShared, key_spec_of}
use Rattle.replay.specs.Plans.{specs_refusal}
use Rattle.script.specs.declared.race.build.Build.{Build}
use Rattle.run_spool.specs.Choices.{kinds_from}
use Rattle.run_spool.specs.PagedSpools.{runs_of}
use Rattle.run_spool.specs.Runs.{pairs_of}
use Rattle.run_spool.specs.declared.choice.SpoolChoice.{SpoolChoice}
use Rattle.prefix_spool.specs.Kinds.{inside, kind_of}
use Rattle.race.specs.declared.outcome.Outcome.{Outcome}
use Rattle.race.specs.declared.planned.Planned.{Planned}

-- the workers, the indexes and the quota are as many as a build may have
abbrev pub IsInLimits : ℕ → Build → Type 0
IsInLimits workers build = is_in_limits workers (vec_len build.specs) build.quota ≡ true

-- the pages of its spools are leased from its pool, and no pair is in them
pub record IsLeased (planned : Planned) : Type 0 where
  pub pages : AreOf planned.leases (map stake_in planned.spools.items)
  pub empty : All (λ spool. (runs_of (inside spool) ≡ []) × (pairs_of (inside spool).open_run ≡ [])) planned.spools.items

-- the pool of its pages, if it is planned
abbrev pub leases_in : Result Planned Fault → Option LeasesValue
leases_in (Ok planned) = Some planned.leases
leases_in (Err fault) = None

-- the build that is asked for may start with so many workers, over new spools of the kinds that are chosen, whose pages it leases, one for each
-- worker and index
pub record IsPlanOf (workers : ℕ) (schema : List Kind) (choice : SpoolChoice) (build : Build) (planned : Planned) : Type 0 where
  pub limits : IsInLimits workers build
  pub specs : planned.plan.specs.items ≡ map (key_spec_of schema) build.specs.items
  pub workers_are : planned.plan.workers ≡ workers
  pub dealing : planned.plan.dealing ≡ build.dealing
  pub leased : IsLeased planned
  pub spools : spools_of_kinds planned.spools.items ≡ new_spools choice (workers * vec_len build.specs) build.quota
  pub kinds : map kind_of planned.spools.items ≡ kinds_from choice 0 (workers * vec_len build.specs)

-- no build of so many workers is planned, and why: it is out of its limits, or a key specification is refused; want of memory aside
abbrev pub RefusesBuild : ℕ → List Kind → Build → Fault → Type 0
RefusesBuild workers schema build fault =
    ((is_in_limits workers (vec_len build.specs) build.quota ≡ false) × (fault ≡ BadCount))
    ⊎ (IsInLimits workers build × (fault ≢ Memory → specs_refusal schema build.specs.items ≡ Some fault))

-- the build is planned, or refused
abbrev pub PlansBuild : ℕ → List Kind → SpoolChoice → Build → Result Planned Fault → Type 0
PlansBuild workers schema choice build (Ok planned) = IsPlanOf workers schema choice build planned
PlansBuild workers schema choice build (Err fault) = RefusesBuild workers schema build fault

-- a build of these indexes was decided so: the verdicts are those on the rows of that log, which goes on from `opening` and ends with the switch, and the
-- lines tell of the refused indexes, if there are any lines
pub record IsOutcomeOf (opening : List LogRec) (specs : List KeySpecValue) (log : List LogRec) (outcome : Outcome) : Type 0 where
  pub pairs : Option (List (List Pair))
  pub report : IsReport opening specs log outcome.verdicts pairs
  pub shared : ListsShared 0 specs outcome.verdicts outcome.shared.items ⊎ (outcome.shared.items ≡ [])

-- the outcome is that of a switch with which that log ends, if there was one
abbrev pub IsOutcomeIn : List LogRec → List KeySpecValue → Option (List LogRec) → Outcome → Type 0
IsOutcomeIn opening specs None outcome = ⊥
IsOutcomeIn opening specs (Some log) outcome = IsOutcomeOf opening specs log outcome

-- a build of these indexes was decided by a switch, or given up without one, for a fault that may end it
abbrev pub EndsRun : List LogRec → List KeySpecValue → Option (List LogRec) → Result Outcome Fault → Type 0
EndsRun opening specs switched (Ok outcome) = IsOutcomeIn opening specs switched outcome
EndsRun opening specs switched (Err fault) = (switched ≡ None) × EndsFor specs fault

-- a planned build was run; of one that was refused the refusal is told
abbrev pub EndsPlanned : List LogRec → Option (List LogRec) → Result Planned Fault → Result Outcome Fault → Type 0
EndsPlanned opening switched (Ok planned) ended = EndsRun opening planned.plan.specs.items switched ended
EndsPlanned opening switched (Err fault) ended = (ended ≡ Err fault) × (switched ≡ None)

-- the build that a race asks for was decided, given up or refused
abbrev pub EndsBuild : List LogRec → Option (List LogRec) → ℕ → List Kind → Build → Result Outcome Fault → Type 0
EndsBuild opening switched workers schema build (Ok outcome) =
    IsInLimits workers build × IsOutcomeIn opening (map (key_spec_of schema) build.specs.items) switched outcome
EndsBuild opening switched workers schema build (Err fault) =
    (switched ≡ None)
    × (RefusesBuild workers schema build fault ⊎ (IsInLimits workers build × EndsFor (map (key_spec_of schema) build.specs.items) fault))
