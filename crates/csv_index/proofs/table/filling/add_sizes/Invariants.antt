use Rattle.std.proofs.Common.{◌≡◌, ℕ, ◌<◌, ◌≤◌, List, [], ◌∷◌, ◌++◌, length, slice_index_or}
use Rattle.keybytes.specs.declared.cell.Cell.{Cell}
use Rattle.keybytes.specs.declared.cell.Cell.TheVariants.{Null}
use Rattle.csv_index.specs.Sizes.{no_sizes, sizes_of_cells}
use Rattle.csv_index.proofs.table.filling.add_sizes.Given as goal

-- the sizes before this place have a cell more, and the others are as they were
abbrev pub invariant-loop-place : goal.invariant-loop-place
invariant-loop-place l = record {
  done :
      (place : ℕ) (cells : List Cell) → place < l.place → place < length l.cells → slice_index_or l.fn.sizes place no_sizes ≡ sizes_of_cells cells
      → slice_index_or l.sizes place no_sizes ≡ sizes_of_cells (cells ++ slice_index_or l.cells place Null ∷ []);
  left : (place : ℕ) → l.place ≤ place → slice_index_or l.sizes place no_sizes ≡ slice_index_or l.fn.sizes place no_sizes;
}
