use Rattle.std.proofs.Common.{◌≡◌}
use Rattle.std.specs.List.{range_with_len, filter_map}
use Rattle.heap_table.specs.Pages.{row_in}
use Rattle.heap_table.proofs.heap.Heap.page_rows.Given as goal

abbrev pub invariant-loop-slot : goal.invariant-loop-slot
invariant-loop-slot l = l.rows.items ≡ filter_map (row_in l.fn.self.state.log l.page) (range_with_len 0 l.slot)
