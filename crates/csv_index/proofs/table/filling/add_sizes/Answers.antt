use Rattle.std.proofs.Common.{◌≡◌, ◌<◌, [], ◌∷◌, ◌++◌, length, sym, ap, ◌∙◌, arith}
use Rattle.csv_index.specs.Sizes.{column_cells, sizes_of_cells}
use Rattle.csv_index.proofs.Sizing.{column_more, column_sizes, columns_count, have_sizes}
use Rattle.csv_index.proofs.table.filling.add_sizes.Goals as goal

pub returns : goal.returns
returns c = λ rows have.
    let cells = c.args.cells.now in
    let count = columns_count (length cells) rows c.args.sizes.now have in
    let all : length c.loop-place.sizes ≡ length cells = omega (arith, count, c.loop-place.auto.sizes) in
    have_sizes (length cells) (rows ++ cells ∷ []) c.loop-place.sizes all (λ place below.
    let was = column_sizes (length cells) rows c.args.sizes.now place have below in
    let reached : place < c.loop-place.place = omega (arith, count, below, c.loop-place-test.false) in
    c.loop-place.invariant.done place (column_cells rows place) reached below was ∙ ap sizes_of_cells (sym (column_more rows cells place)))
