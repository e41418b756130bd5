-- The fields of a page.
use Rattle.std.specs.Prelude.{ℕ, ◌≤◌, ◌≡◌, List, length}
use Rattle.slotted_page.specs.Slot.{total_reserve, lowest_free}
use Rattle.slotted_page.specs.Image.{slots_in, KeepsFormat}

-- what a page keeps of its fields
pub record IsPage (image : List ℕ) (limit reserved first : ℕ) : Type 0 where
  pub format : KeepsFormat image
  pub counted : length (slots_in image) ≤ limit
  pub limited : limit ≤ 255
  pub total : total_reserve (slots_in image) ≡ reserved
  pub lowest : lowest_free (slots_in image) ≡ first
