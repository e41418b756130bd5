-- The pairs of the rows on copies of pages.
use Rattle.std.specs.Prelude.{◌≡◌, ℕ, List, length, Option, filter_map}
use Rattle.std.specs.List.{range_with_len}
use Rattle.keybytes.specs.Keys.{KeySpecValue}
use Rattle.keybytes.specs.Pairs.{pair_with}
use Rattle.keybytes.specs.declared.cell.Cell.{Cell}
use Rattle.keybytes.specs.declared.pair.Pair.{Pair}
use Rattle.heap_table.specs.Images.{ImageValue, Shows, image_slot}
use Rattle.heap_table.specs.Pages.{rid_at}

-- these are the pairs of the rows on a copy, by slot
pub record HasPairs (spec : KeySpecValue) (image : ImageValue) (pairs : List Pair) : Type 0 where
  -- the row in each slot, or none
  pub rows : ℕ → Option (List Cell)
  pub shows : (slot : ℕ) → Shows spec.kinds (image_slot image slot) (rows slot)
  pub pairs_are : pairs ≡ filter_map (λ slot. pair_with spec (rid_at image.page slot) (rows slot)) (range_with_len 0 (length image.slots))
