-- What the calls of a worker leave.
use Rattle.std.specs.Prelude.{◌≡◌, ℕ, ◌+◌, ◌++◌, ◌≤◌, List, length, take, drop}
use Rattle.keybytes.specs.declared.kind.Kind.{Kind}
use Rattle.heap_table.specs.Images.{ImageValue}
use Rattle.page_workers.specs.declared.copied.Copied.{Copied}
use Rattle.page_workers.specs.Copies.{images_of}
use Rattle.side_file.specs.Ends.{TakeEnd, after_taking}
use Rattle.page_workers.specs.IntakeValue.{IntakeValue}

-- a build begins: nothing of it is taken
abbrev pub at_start : ℕ → TakeEnd Copied → IntakeValue
at_start build end = record { build = build; end = end; taken = 0; sealed = 0 }

-- what every worker keeps
pub record IsIntake (worker : IntakeValue) : Type 0 where
  pub sealed_was_taken : worker.sealed ≤ worker.taken

-- its end of the ring has seen these
abbrev pub knowing : List Copied → IntakeValue → IntakeValue
knowing copies worker = record worker { end = record worker.end { known = copies } }

-- it looked into its ring, and took nothing: behind the copies that it had seen more may be seen
pub record SeesMore (old new : IntakeValue) : Type 0 where
  pub more : List Copied
  pub left : new ≡ knowing (old.end.known ++ more) old

-- the images of its build, of a table of these columns, among the first n copies that it has seen
abbrev pub next_images : ℕ → List Kind → IntakeValue → List ImageValue
next_images n kinds worker = images_of worker.build kinds (take n worker.end.known)

-- the first n copies that it has seen are taken
abbrev pub after_digest : ℕ → List Kind → IntakeValue → IntakeValue
after_digest n kinds worker = record worker { end = after_taking n worker.end; taken = worker.taken + length (next_images n kinds worker) }

-- the image of the copy behind these, if that is of its build, of a table of these columns
abbrev pub image_behind : ℕ → List Kind → IntakeValue → List ImageValue
image_behind n kinds worker = images_of worker.build kinds (take 1 (drop n worker.end.known))

-- it stopped at the copy behind the first n, one of its build: those are taken and counted, that one is gone and isn't
pub record StopsAt (n : ℕ) (kinds : List Kind) (old new : IntakeValue) : Type 0 where
  pub own : length (image_behind n kinds old) ≡ 1
  pub left : new ≡ record (after_digest n kinds old) { end = after_taking (n + 1) old.end }

-- all that is taken is sealed
abbrev pub after_seal : IntakeValue → IntakeValue
after_seal worker = record worker { sealed = worker.taken }
