-- The log as its callers see it.
use Rattle.std.specs.Prelude.{ℕ, List}
use Rattle.heap_log.specs.declared.record.LogRec.{LogRec}

-- the records in order, how many more can be added without taking memory, how many slots of each page have places for writes, and how
-- many transactions have one for theirs, by their numbers
pub record LogValue : Type 0 where
  pub records : List LogRec
  pub room : ℕ
  pub places : List ℕ
  pub txns : ℕ
