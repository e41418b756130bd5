-- The iterator over a page's rows.
use Rattle.std.specs.Prelude.{ℕ, List, drop}
use Rattle.slotted_page.specs.Slot.{rows_from}
use Rattle.slotted_page.specs.declared.rows.Rows.{Rows}

-- the rows that are still to come
abbrev pub rows_left : Rows → List (ℕ × List ℕ)
rows_left rows = rows_from rows.next (drop rows.next rows.page.now.slots)
