use Rattle.std.proofs.Common.{ℕ, [], sym, subst}
use Rattle.csv.specs.Records.{fields_of}
use Rattle.csv_index.specs.Headers.{IsSourceOf}
use Rattle.csv_index.specs.Sizes.{HaveSizes}
use Rattle.csv_index.proofs.Taken.{zip_length}
use Rattle.csv_index.proofs.table.filling.read_all.Goals as goal

pub read_rows-requires-clause-sizes : goal.read_rows-requires-clause-sizes
read_rows-requires-clause-sizes g c =
    let columns = c.args.reading.columns.now in
    let many = zip_length (IsSourceOf (fields_of c.read.new.record)) columns c.in_ok-sources.field-0.items c.in_ok-sources.ensures.found in
    subst (λ (n : ℕ). HaveSizes n [] c.args.filled.now.sizes.items) (sym many) c.requires.sizes
