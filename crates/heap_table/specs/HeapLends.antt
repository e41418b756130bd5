-- What a table ends as, once a reference into it has ended.
use Rattle.std.specs.Prelude.{◌≡◌, ⊤}
use Rattle.std.specs.Borrow.{Fml, MutBor, follows_so}
use mathlib.Core.Option.{none}
use Rattle.heap_table.specs.HeapState.{after_visit}
use Rattle.heap_table.specs.contracts.heap.Heap.{the_row}
use Rattle.heap_table.specs.declared.heap.Heap.{Heap}

-- it has one visit more
abbrev pub ends_visited : MutBor Heap → Fml
ends_visited heap = follows_so the_row the_row heap.ghost_name none (λ _ _. ⊤) (λ end. end ≡ record heap.now { state = after_visit heap.now.state })
