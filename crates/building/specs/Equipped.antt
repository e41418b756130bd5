-- What a build begins with.
use Rattle.std.specs.Prelude.{◌≡◌, ℕ, ◌<◌, ◌≤◌, List, [], ◌∷◌, ◌++◌, length, false}
use Rattle.std.specs.List.{All}
use Rattle.std.specs.declared.alloc.Global.{Global}
use Rattle.std.specs.declared.vec.Vec.{Vec}
use Rattle.std.specs.Vec.{vec_capacity}
use Rattle.page_workers.specs.IntakeValue.{IntakeValue}
use Rattle.page_workers.specs.Work.{at_start}
use Rattle.page_workers.specs.WorkerValue.{WorkerValue}
use Rattle.building.specs.Keeping.{IsWorkerAt}
use Rattle.keybytes.specs.Keys.{KeySpecValue}
use Rattle.run_maker.specs.Making.{MakerValue}

-- the list is empty, with room for so many
pub record HasRoomFor {X : Type 0} (count : ℕ) (list : Vec X Global) : Type 0 where
  pub none : list.items ≡ []
  pub room : count ≤ vec_capacity list

-- an intake that begins that build, of which nothing was received
pub record IsFresh (build : ℕ) (intake : IntakeValue) : Type 0 where
  pub begins : intake ≡ at_start build intake.end
  pub earlier : All (λ copied. copied.build < build) intake.end.received

-- a maker that begins makes pairs of these indexes, and made none
pub record IsNewMaker (specs : List KeySpecValue) (maker : MakerValue) : Type 0 where
  pub specs_are : maker.specs ≡ specs
  pub none : All (λ begun. begun ≡ []) maker.begun

-- a worker has a spool for each of these indexes
abbrev pub HasOwnSpools : List KeySpecValue → WorkerValue → Type 0
HasOwnSpools specs worker = length worker.spools ≡ length specs

-- there is one more, with that maker, and a spool for each index
pub record HasOneMore (build : ℕ) (specs : List KeySpecValue) (maker : MakerValue) (old new : List WorkerValue) : Type 0 where
  pub worker : WorkerValue
  pub last : new ≡ old ++ worker ∷ []
  pub made : worker.maker ≡ maker
  pub at : IsWorkerAt build specs false (length old) worker
  pub own : HasOwnSpools specs worker
