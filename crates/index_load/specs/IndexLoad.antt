-- The load of one index: the spools that hold its pairs, and the tree in which they are put in order.
use Rattle.std.specs.Prelude.{◌≡◌, ◌⊎◌, ℕ, Bool, is_some, List, [], map, true, Option, Some, None, IfSome, Result, Ok, Err, IfOk, IfErr, IsPermutation}
use Rattle.std.specs.List.{All}
use Rattle.keybytes.specs.Pairs.{AreOrdered}
use Rattle.keybytes.specs.declared.fault.Fault.{Fault}
use Rattle.keybytes.specs.declared.fault.Fault.TheVariants.{Memory}
use Rattle.run_spool.specs.Spools.{AreSorted}
use Rattle.page_workers.specs.SpoolValue.{SpoolValue, ended_spool, pairs_in, runs_of, stakes_of}
use Rattle.bulk_load.specs.Each.{AreEachOnce}
use Rattle.catch_up.specs.Built.{BuiltValue}

-- the number of the build, whether the index is to be unique, the spools that hold its pairs, one of each worker, the index once its pairs are in
-- order, and the fault of a load that was refused
pub record IndexLoadValue : Type 0 where
  pub build : ℕ
  pub unique : Bool
  pub spools : List SpoolValue
  pub built : Option BuiltValue
  pub fault : Option Fault

-- its pairs can be put in order: each run is, and none is there twice
pub record IsLoadable (spools : List SpoolValue) : Type 0 where
  pub sorted : All AreSorted (runs_of spools)
  pub once : AreEachOnce (pairs_in spools)

-- the pairs of the spools are in order in an index of that build
pub record IsLoadOf (load : IndexLoadValue) (built : BuiltValue) : Type 0 where
  pub build : built.build ≡ load.build
  pub unique : built.unique ≡ load.unique
  pub moved : IsPermutation (pairs_in load.spools) built.pairs
  pub ordered : AreOrdered built.pairs

-- a load without its spools
abbrev pub without_spools : IndexLoadValue → IndexLoadValue
without_spools load = record load { spools = [] }

-- an index of that build is made of the pairs of these spools, in order, and they are ended; or want of memory refused it. They keep their stakes
pub record MakesIndex (build : ℕ) (unique : Bool) (old : List SpoolValue) (result : Result BuiltValue Fault) (new : List SpoolValue) : Type 0 where
  pub stakes : stakes_of new ≡ stakes_of old
  pub made : IfOk result (λ built. (built.build ≡ build) × (built.unique ≡ unique) × IsPermutation (pairs_in old) built.pairs × AreOrdered built.pairs
      × (new ≡ map ended_spool old))
  pub memory : IfErr result (λ fault. fault ≡ Memory)

-- a load with what was made of its spools
abbrev pub with_made : IndexLoadValue → Result BuiltValue Fault → List SpoolValue → IndexLoadValue
with_made load (Ok built) spools = record load { spools = spools; built = Some built }
with_made load (Err fault) spools = record load { spools = spools; fault = Some fault }

-- a load went on: one that wasn't done or refused before put the pairs in order and ended the spools, or is refused for want of memory
pub record HasRun (old new : IndexLoadValue) : Type 0 where
  pub stakes : stakes_of new.spools ≡ stakes_of old.spools
  -- what was done or refused before stays as it is
  pub again : ((is_some old.built ≡ true) ⊎ (is_some old.fault ≡ true)) → new ≡ old
  pub done : old.built ≡ None → old.fault ≡ None → new.fault ≡ None
      → (built : BuiltValue) × (new.built ≡ Some built) × IsLoadOf old built × (new.spools ≡ map ended_spool old.spools)
  pub memory : old.fault ≡ None → IfSome new.fault (λ fault. fault ≡ Memory)
  -- one that is refused has no index
  pub refused : old.built ≡ None → IfSome new.fault (λ fault. new.built ≡ None)
