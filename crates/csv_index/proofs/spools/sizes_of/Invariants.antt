use Rattle.std.proofs.Common.{◌≡◌, take}
use Rattle.csv_index.specs.Sizes.{keys_sizes}
use Rattle.csv_index.proofs.spools.sizes_of.Given as goal

abbrev pub invariant-loop-column : goal.invariant-loop-column
invariant-loop-column l = l.sizes ≡ keys_sizes l.amount.sizes.now (take l.column-index l.column-items)
