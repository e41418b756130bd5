-- A side-file as its callers see it.
use Rattle.std.specs.Prelude.{ℕ, List}
use Rattle.side_file.specs.declared.entry.Entry.{Entry}
use Rattle.side_file.specs.Ends.{PutEnd}

-- the entries fed since it was new or last reset, those left, how many more find room, and this end of the ring
pub record SideFileValue : Type 0 where
  pub fed : List Entry
  pub left : List Entry
  pub room : ℕ
  pub end : PutEnd Entry
