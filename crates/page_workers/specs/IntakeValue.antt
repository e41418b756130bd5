-- A worker's end of its ring as its callers see it, and how far it is.
use Rattle.std.specs.Prelude.{ℕ}
use Rattle.page_workers.specs.declared.copied.Copied.{Copied}
use Rattle.side_file.specs.Ends.{TakeEnd}

-- the number of its build, its end of its ring, how many copies of its build it took, and how many of these when it last sealed
pub record IntakeValue : Type 0 where
  pub build : ℕ
  pub end : TakeEnd Copied
  pub taken : ℕ
  pub sealed : ℕ
