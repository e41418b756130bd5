use Rattle.std.proofs.Common.{length}
use Rattle.csv_index.proofs.Sizing.{have_none}
use Rattle.csv_index.proofs.table.filling.fill.Goals as goal

pub read_all-requires-clause-sizes : goal.read_all-requires-clause-sizes
read_all-requires-clause-sizes g c =
    have_none (length c.args.reading.columns.now) c.in_ok-vec.field-0.items (c.in_ok-vec.ensures.items_if_clones_equal (λ y is. is))
