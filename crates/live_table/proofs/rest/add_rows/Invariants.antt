use Rattle.std.proofs.Common.{◌≡◌, ◌++◌, filter_map, take}
use Rattle.heap_table.specs.TablePairs.{pair_of}
use Rattle.live_table.proofs.rest.add_rows.Given as goal

abbrev pub invariant-loop-rid : goal.invariant-loop-rid
invariant-loop-rid l = l.pairs.items ≡ l.fn.pairs.items ++ filter_map (pair_of l.spec) (take l.rid-index l.rows)
