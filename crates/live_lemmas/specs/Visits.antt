-- How often the rows of a table were given out.
use Rattle.std.specs.Prelude.{◌≡◌, ℕ, ◌≤◌}
use Rattle.heap_table.specs.HeapState.{HeapState}
use Rattle.build_events.specs.CoreState.{after_visits}

-- rows were given out at most so many times, and nothing else changed
pub record IsVisited (most : ℕ) (heap new : HeapState) : Type 0 where
  pub times : ℕ
  pub few : times ≤ most
  pub after : new ≡ after_visits heap times
