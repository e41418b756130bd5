-- A table with the memory that it has ready.
use Rattle.std.specs.Prelude.{ℕ, List}
use Rattle.heap_table.specs.HeapState.{HeapState}

-- what the table is, how many changes it can log without taking memory, and how many slots of each page its log has places for
pub record HeapValue : Type 0 where
  pub state : HeapState
  pub room : ℕ
  pub places : List ℕ
