-- The rings between a table and the workers of its build: what each worker has of its ring.
use Rattle.std.specs.Prelude.{◌≡◌, ℕ, ◌<◌, ◌≤◌, Bool, true, false, List, [], ◌++◌, get_or, length, map, Some, None}
use Rattle.std.specs.List.{All, AllZip, slice_get}
use Rattle.keybytes.specs.declared.kind.Kind.{Kind}
use Rattle.keybytes.specs.Keys.{KeySpecValue}
use Rattle.side_file.specs.Ends.{PutEnd, RingId}
use Rattle.side_file.specs.declared.entry.Entry.{Entry}
use Rattle.side_file.specs.Ends.{PutEndLooked, TakeEnd}
use Rattle.page_workers.specs.Holding.{HoldsOpen}
use Rattle.page_workers.specs.Taking.{IsTaking, unsealed_images}
use Rattle.page_workers.specs.Work.{knowing, at_start}
use Rattle.page_workers.specs.IntakeValue.{IntakeValue}
use Rattle.page_workers.specs.WorkerValue.{WorkerValue}
use Rattle.page_workers.specs.declared.copied.Copied.{Copied}
use Rattle.table_scan.specs.SideFiles.{taken_rings}

-- which rings these ends put into
abbrev pub put_rings : List (PutEnd Copied) → List RingId
put_rings pages = map (λ end. end.ring) pages

-- which rings these intakes take from
abbrev pub take_rings : List IntakeValue → List RingId
take_rings intakes = map (λ intake. intake.end.ring) intakes

-- all that each of the rings was sent
abbrev pub all_sent : List (PutEnd Copied) → List (List Copied)
all_sent pages = map (λ end. end.sent) pages

-- an end that knows each of its ring's places to be free, and was sent what it was
abbrev pub all_free : PutEnd Copied → PutEnd Copied
all_free end = record end { free = 4 }

-- the ends that take are those of a table with these rings
pub record AreTakeEnds (page_rings entry_rings : List RingId) (intakes : List IntakeValue) (sides : List (TakeEnd Entry)) : Type 0 where
  pub intakes_are : take_rings intakes ≡ page_rings
  pub sides_are : taken_rings sides ≡ entry_rings
  pub sixteen : length intakes ≡ 16
  pub eight : length sides ≡ 8

-- no copy is of a build with a greater number
abbrev pub AreOfBuilds : ℕ → List (List Copied) → Type 0
AreOfBuilds builds all = All (λ sent. All (λ copied. copied.build ≤ builds) sent) all

-- a worker of that build of these indexes, on rows of these columns, which takes what its ring was sent. It has a spool for each index;
-- once it handed them over it has none, and of the pairs that it took since its last seal those are in no run that don't fill one
pub record IsWorkerOf (build : ℕ) (kinds : List Kind) (specs : List KeySpecValue) (gone : Bool) (sent : List Copied) (worker : WorkerValue) : Type 0 where
  pub fine : worker.fault ≡ None
  pub schema : worker.maker.schema ≡ kinds
  pub specs_are : worker.maker.specs ≡ specs
  -- its spools are gone to the indexes
  pub handed : worker.handed ≡ gone
  pub own : gone ≡ false → length worker.spools ≡ length specs
  pub none : gone ≡ true → worker.spools ≡ []
  pub opened : gone ≡ true → (index : ℕ) (spec : KeySpecValue) → slice_get specs index ≡ Some spec
      → HoldsOpen spec (unsealed_images spec.kinds worker.intake) (get_or worker.maker.begun index [])
  pub taking : IsTaking build kinds sent worker.intake

-- so are all of them
abbrev pub AreTaking : ℕ → List Kind → List KeySpecValue → Bool → List (List Copied) → List WorkerValue → Type 0
AreTaking build kinds specs handed all workers =
    (k : ℕ) (sent : List Copied) (worker : WorkerValue) → slice_get all k ≡ Some sent → slice_get workers k ≡ Some worker
    → IsWorkerOf build kinds specs handed sent worker

-- a worker, but for what it has seen in its ring
abbrev pub unseen : WorkerValue → WorkerValue
unseen worker = record worker { intake = knowing [] worker.intake }

-- both ends of the rings were looked at, and nothing was put or taken
pub record AreLooked
    (pages : List (PutEnd Copied)) (workers : List WorkerValue) (new_pages : List (PutEnd Copied)) (new_workers : List WorkerValue)
    : Type 0 where
  pub puts : AllZip PutEndLooked pages new_pages
  pub same : map unseen new_workers ≡ map unseen workers

-- an intake that begins a build, and has taken all that its ring was sent before
abbrev pub begun_on : ℕ → PutEnd Copied → IntakeValue
begun_on build end = at_start build (record { ring = end.ring; received = end.sent; known = [] })

-- a worker took all that its ring was sent, and its maker has no run open
pub record IsSealed (sent : List Copied) (worker : WorkerValue) : Type 0 where
  pub taken : worker.intake.end.received ≡ sent
  pub closed : All (λ begun. begun ≡ []) worker.maker.begun

-- the first so many workers are
abbrev pub FirstAreSealed : ℕ → List (List Copied) → List WorkerValue → Type 0
FirstAreSealed count all workers =
    (k : ℕ) (sent : List Copied) (worker : WorkerValue) → k < count → slice_get all k ≡ Some sent → slice_get workers k ≡ Some worker
    → IsSealed sent worker

-- all of them are
abbrev pub AreSealed : List (List Copied) → List WorkerValue → Type 0
AreSealed all workers =
    (k : ℕ) (sent : List Copied) (worker : WorkerValue) → slice_get all k ≡ Some sent → slice_get workers k ≡ Some worker → IsSealed sent worker

-- the worker of that number isn't
abbrev pub IsUnsealed : ℕ → List (List Copied) → List WorkerValue → Type 0
IsUnsealed k all workers =
    (sent : List Copied) (worker : WorkerValue) → slice_get all k ≡ Some sent → slice_get workers k ≡ Some worker → IsSealed sent worker → ⊥

-- the worker of that number has seen all that its ring was sent and it hasn't taken
abbrev pub HasSeenAll : ℕ → List (List Copied) → List WorkerValue → Type 0
HasSeenAll k all workers =
    (sent : List Copied) (worker : WorkerValue) → slice_get all k ≡ Some sent → slice_get workers k ≡ Some worker
    → worker.intake.end.received ++ worker.intake.end.known ≡ sent
