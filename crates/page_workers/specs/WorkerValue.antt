-- A worker of a build as its callers see it, and what it keeps.
use Rattle.std.specs.Prelude.{◌≡◌, ℕ, ◌≤◌, ◌<◌, ◌⊎◌, Bool, List, [], length, get_or, Option}
use Rattle.std.specs.List.{All}
use Rattle.keybytes.specs.Keys.{KeySpecValue}
use Rattle.keybytes.specs.declared.fault.Fault.{Fault}
use Rattle.keybytes.specs.declared.fault.Fault.TheVariants.{NoPage, Memory}
use Rattle.keybytes.specs.declared.pair.Pair.{Pair}
use Rattle.heap_table.specs.Images.{ImageValue}
use Rattle.run_spool.specs.Spools.{AreSorted}
use Rattle.run_maker.specs.Making.{MakerValue, AreReady, Holdings, spec_at}
use Rattle.page_workers.specs.Holding.{HoldsClosed, HoldsPairs, HoldsOpen}
use Rattle.page_workers.specs.ImagePairs.{HavePairs}
use Rattle.page_workers.specs.IntakeValue.{IntakeValue}
use Rattle.page_workers.specs.SpoolValue.{SpoolValue, runs_of, open_runs_of, stakes_of}
use Rattle.page_workers.specs.Taking.{received_images, sealed_images, unsealed_images}

-- its number, how far it is with its ring, its maker, its spools, one for each index, whether these went to the indexes, and the fault
-- that stopped it
pub record WorkerValue : Type 0 where
  pub number : ℕ
  pub intake : IntakeValue
  pub maker : MakerValue
  pub spools : List SpoolValue
  pub handed : Bool
  pub fault : Option Fault

-- what a maker and its spools hold
abbrev pub holdings : MakerValue → List SpoolValue → Holdings
holdings maker spools = record { runs = runs_of spools; begun = maker.begun }

-- index i is held with the pairs of these images
abbrev pub HoldsAt : ℕ → KeySpecValue → List ImageValue → Holdings → Type 0
HoldsAt i spec images held = HoldsPairs spec images (get_or held.runs i []) (get_or held.begun i [])

-- it counted the images of its build that it received, and of these those that were sealed
pub record IsCounting (intake : IntakeValue) (maker : MakerValue) : Type 0 where
  pub taken : intake.taken ≡ length (received_images maker.schema intake)
  pub sealed_was_taken : intake.sealed ≤ intake.taken

-- of each index maker and spools hold the pairs of the images of its build that it received; of those since the last seal each run is full,
-- and those that don't fill one are in no run yet
pub record IsHolding (intake : IntakeValue) (maker : MakerValue) (spools : List SpoolValue) : Type 0 where
  pub many : length spools ≡ length maker.specs
  pub ready : AreReady (runs_of spools) (open_runs_of spools)
  pub sorted : All AreSorted (runs_of spools)
  pub holds : (i : ℕ) → i < length maker.specs → HoldsAt i (spec_at maker.specs i) (received_images maker.schema intake) (holdings maker spools)
  pub opened : (i : ℕ) → i < length maker.specs → HoldsOpen (spec_at maker.specs i) (unsealed_images maker.schema intake) (get_or maker.begun i [])
  pub closed : (i : ℕ) → i < length maker.specs → HoldsClosed (spec_at maker.specs i) (sealed_images maker.schema intake) (get_or (runs_of spools) i [])

-- the pairs of index i of the images of its build that the worker received
abbrev pub HasReceived : WorkerValue → ℕ → List Pair → Type 0
HasReceived worker i pairs = HavePairs (spec_at worker.maker.specs i) (received_images worker.maker.schema worker.intake) pairs

-- memory or a page was missing
abbrev pub IsShortage : Fault → Type 0
IsShortage fault = (fault ≡ NoPage) ⊎ (fault ≡ Memory)

-- the worker has its number, its ring, its columns and specifications, and the accounts of its spools; what it took and holds may be other
pub record SameWorker (old new : WorkerValue) : Type 0 where
  pub number : new.number ≡ old.number
  pub build : new.intake.build ≡ old.intake.build
  pub ring : new.intake.end.ring ≡ old.intake.end.ring
  pub schema : new.maker.schema ≡ old.maker.schema
  pub specs : new.maker.specs ≡ old.maker.specs
  pub stakes : stakes_of new.spools ≡ stakes_of old.spools
  pub handed : new.handed ≡ old.handed
