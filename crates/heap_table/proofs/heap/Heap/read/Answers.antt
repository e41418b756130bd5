use Rattle.std.proofs.Common.{rules}
use Rattle.heap_table.proofs.Showing.{not_missing}
use Rattle.heap_table.proofs.heap.Heap.read.Goals as goal

pub returns-in_err-row-clause-refused : goal.returns-in_err-row-clause-refused
returns-in_err-row-clause-refused c =
    let missing = not_missing _ c.in_err-row.ensures.there in
    search rules
