-- The plan that a command `start` asks for.
use Rattle.std.specs.Prelude.{◌≡◌, not, is_some, IsSomeAnd, Vec, vec_len, List, [], ◌∷◌, ◌++◌, map, Option, None}
use Rattle.std.specs.declared.alloc.Global.{Global}
use Rattle.keybytes.specs.Faults.{first_cause}
use Rattle.keybytes.specs.Keys.{KeySpecValue}
use Rattle.keybytes.specs.declared.fault.Fault.{Fault}
use Rattle.keybytes.specs.declared.fault.Fault.TheVariants.{BadCount, BuildRunning}
use Rattle.keybytes.specs.declared.kind.Kind.{Kind}
use Rattle.build_events.specs.CoreState.{CoreState}
use Rattle.build_events.specs.BuildSteps.{cause_if}
use Rattle.build_events.specs.declared.plan.Plan.{Plan}
use Rattle.script.specs.declared.spec.Spec.{Spec}
use Rattle.script.specs.declared.start.Start.{Start}
use Rattle.replay.specs.Limits.{is_in_limits}
use Rattle.replay.specs.Listings.{key_spec_of, spec_refusal}

-- why the first of the key specifications that is refused is so, on a table with these columns
abbrev pub specs_refusal : List Kind → List Spec → Option Fault
specs_refusal schema [] = None
specs_refusal schema (spec ∷ specs) = first_cause (spec_refusal schema spec) (specs_refusal schema specs)

-- why no plan is made: a build runs, a count is out of its limits, or a key specification is refused
abbrev pub planning_refusal : CoreState → Start → Option Fault
planning_refusal s start =
    first_cause (cause_if (is_some s.live.build) BuildRunning)
    (first_cause (cause_if (not (is_in_limits start.workers (vec_len start.specs) start.quota)) BadCount)
    (specs_refusal s.live.heap.schema start.specs.items))

-- the specifications are these, which are there, and one more
abbrev pub IsOneMore : Option (Vec KeySpecValue Global) → KeySpecValue → Vec KeySpecValue Global → Type 0
IsOneMore before one after = IsSomeAnd before (λ made. after.items ≡ made.items ++ one ∷ [])

-- the plan is the one asked for, of a table with these columns
pub record IsPlanOf (schema : List Kind) (start : Start) (plan : Plan) : Type 0 where
  pub specs : plan.specs.items ≡ map (key_spec_of schema) start.specs.items
  pub workers : plan.workers ≡ start.workers
  pub dealing : plan.dealing ≡ start.dealing
