-- A queue of portions as its callers see it.
use Rattle.std.specs.Prelude.{ℕ, List}
use Rattle.side_file.specs.declared.entry.Entry.{Entry}

-- the entries in order, and how many more portions find a place
pub record QueueValue : Type 0 where
  pub entries : List Entry
  pub room : ℕ
