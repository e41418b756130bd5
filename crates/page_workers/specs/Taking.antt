-- What a worker has taken of the copies that were put for its build.
use Rattle.std.specs.Prelude.{◌≡◌, ℕ, ◌≤◌, List, ◌++◌, length, drop, take}
use Rattle.std.specs.List.{All}
use Rattle.keybytes.specs.declared.kind.Kind.{Kind}
use Rattle.heap_table.specs.Images.{ImageValue}
use Rattle.page_workers.specs.declared.copied.Copied.{Copied}
use Rattle.page_workers.specs.Copies.{IsFor, images_of}
use Rattle.page_workers.specs.IntakeValue.{IntakeValue}

-- the images of its build that a worker received, of a table of these columns
abbrev pub received_images : List Kind → IntakeValue → List ImageValue
received_images kinds worker = images_of worker.build kinds worker.end.received

-- those that it had received when it last sealed
abbrev pub sealed_images : List Kind → IntakeValue → List ImageValue
sealed_images kinds worker = take worker.sealed (received_images kinds worker)

-- those that it received since it last sealed
abbrev pub unsealed_images : List Kind → IntakeValue → List ImageValue
unsealed_images kinds worker = drop worker.sealed (received_images kinds worker)

-- a worker takes what its ring was sent, in order, and counts what it took for that build of a table of these columns
pub record IsTaking (build : ℕ) (kinds : List Kind) (sent : List Copied) (worker : IntakeValue) : Type 0 where
  pub of_build : worker.build ≡ build
  -- the copies that it hasn't taken, all for that build and of these columns
  pub rest : List Copied
  pub in_order : worker.end.received ++ rest ≡ sent
  pub own : All (IsFor build kinds) rest
  pub taken : worker.taken ≡ length (received_images kinds worker)
  pub sealed_was_taken : worker.sealed ≤ worker.taken
