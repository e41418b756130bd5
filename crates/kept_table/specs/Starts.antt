-- Why a kept table starts no build.
use Rattle.std.specs.Prelude.{◌≡◌, ℕ, ◌&&◌, not, nat_le, is_some, length, Option, MatchOption}
use Rattle.keybytes.specs.Faults.{first_cause}
use Rattle.keybytes.specs.declared.fault.Fault.{Fault}
use Rattle.keybytes.specs.declared.fault.Fault.TheVariants.{BuildRunning, BadCount}
use Rattle.build_events.specs.BuildSteps.{cause_if, indexes_most, workers_most}
use Rattle.build_events.specs.CoreState.{CoreState}
use Rattle.build_events.specs.declared.plan.Plan.{Plan}
use Rattle.run_spool.specs.declared.choice.SpoolChoice.{SpoolChoice}
use Rattle.leased_core.specs.Leasing.{FailsToStart}

-- the most pages that a spool may lease
abbrev pub quota_most : ℕ
quota_most = 1024

-- why no spools are made for a build: one runs, or its workers, its indexes or the pages of a spool are too many
abbrev pub start_limits_refusal : ℕ → Plan → CoreState → Option Fault
start_limits_refusal quota plan s =
    first_cause (cause_if (is_some s.live.build) BuildRunning)
    (cause_if (not (nat_le plan.workers workers_most && nat_le (length plan.specs.items) indexes_most && nat_le quota quota_most)) BadCount)

-- a build does not start for that fault
abbrev pub RefusesStart : SpoolChoice → ℕ → Plan → CoreState → Fault → Type 0
RefusesStart chosen quota plan s fault =
    MatchOption (start_limits_refusal quota plan s) (FailsToStart chosen quota plan s fault) (λ cause. fault ≡ cause)
