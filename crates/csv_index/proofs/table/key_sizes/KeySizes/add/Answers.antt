use Rattle.csv_index.proofs.Sizing.{sizes_more}
use Rattle.csv_index.proofs.table.key_sizes.KeySizes.add.Goals as goal

pub returns : goal.returns
returns c = λ cells was.
    sizes_more cells c.args.cell.now c.args.self.now _ c.size_of-size.result c.size_of-size.ensures was c.saturating_add-self.ensures c.max-self.ensures
