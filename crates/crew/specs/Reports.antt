-- What a build reports, and why it is given up.
use Rattle.std.specs.Global.{Vec}
use Rattle.std.specs.List.{list_any}
use Rattle.std.specs.Option.{option_map}
use Rattle.std.specs.Prelude.{◌≡◌, ◌≢◌, ℕ, IfSome, List, [], ◌∷◌, ◌++◌, Option, map, true}
use Rattle.keybytes.specs.Keys.{KeySpecValue}
use Rattle.keybytes.specs.declared.fault.Fault.{Fault}
use Rattle.keybytes.specs.declared.fault.Fault.TheVariants.{Behind, Busy, SpoolNotEmpty}
use Rattle.keybytes.specs.declared.pair.Pair.{Pair}
use Rattle.heap_log.specs.declared.outcome.Outcome.{Outcome}
use Rattle.heap_log.specs.declared.record.LogRec.{LogRec}
use Rattle.heap_log.specs.declared.record.LogRec.TheVariants.{Switch}
use Rattle.heap_table.specs.TablePairs.{pairs_at_rest}
use Rattle.build_events.specs.Verdicts.{HaveSharedKeys, accepted, outcomes, verdict_on}
use Rattle.crew.specs.MadeReady.{made_ready}

-- of each index that is accepted these are the pairs at rest
abbrev pub ArePairsAtRest : List KeySpecValue → List LogRec → List (List Pair) → Type 0
ArePairsAtRest specs log pairs = pairs ≡ map (λ spec. pairs_at_rest spec log) (accepted log specs)

-- the pairs of each index, where there are any
abbrev pub lists_in : Option (Vec (Vec Pair)) → Option (List (List Pair))
lists_in pairs = option_map (λ them. map (λ it. it.items) them.items) pairs

-- what is told of a build of these indexes that decided, by the log that its receipt stands for
pub record IsReport
    (opening : List LogRec) (specs : List KeySpecValue) (log : List LogRec) (verdicts : List Outcome) (pairs : Option (List (List Pair)))
    : Type 0 where
  -- what was written between the opening of the table and the switch
  pub earlier : List LogRec
  -- the log goes on from that with which the table was opened, and ends with a switch of these verdicts
  pub switched : log ≡ opening ++ earlier ++ Switch verdicts ∷ []
  -- they are the verdicts on these indexes over the rows that stand in the log, and those that became ready are numbered behind those that were
  pub right : verdicts ≡ outcomes (made_ready earlier) (map (verdict_on log) specs)
  -- a key that rows share is a key of its index
  pub keyed : HaveSharedKeys specs verdicts
  -- the pairs are those at rest
  pub at_rest : IfSome pairs (ArePairsAtRest specs log)

-- some index is unique
abbrev pub HasUnique : List KeySpecValue → Type 0
HasUnique specs = list_any (λ spec. spec.unique) specs ≡ true

-- a fault that is neither a start's, for a spool that isn't empty, nor a switch's, for transactions that are busy or entries that are left
pub record IsOther (fault : Fault) : Type 0 where
  pub not_full : fault ≢ SpoolNotEmpty
  pub not_busy : (count : ℕ) → fault ≢ Busy count
  pub not_behind : (left : ℕ) → fault ≢ Behind left

-- a fault for which a build of these indexes may be given up once it has started
pub record EndsFor (specs : List KeySpecValue) (fault : Fault) : Type 0 where
  pub not_full : fault ≢ SpoolNotEmpty
  pub busy : (count : ℕ) → fault ≡ Busy count → HasUnique specs
  -- however quickly sessions write
  pub not_behind : (left : ℕ) → fault ≢ Behind left
