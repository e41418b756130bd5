-- The ranges of pages of a build, and which of their pages are still to be copied.
use Rattle.std.specs.Prelude.{ℕ, Bool, not, if◌then◌else◌, is_some, List, [], ◌∷◌, length, Option, Some, None}
use Rattle.std.specs.List.{range_with_len}
use Rattle.scan_range.specs.Cuts.{range_pages}
use Rattle.build_events.specs.CoreState.{BuildState}
use Rattle.build_events.specs.Scanning.{scanned_at}

-- the first of these numbers that passes
abbrev pub first_that : (ℕ → Bool) → List ℕ → Option ℕ
first_that test [] = None
first_that test (n ∷ ns) = if test n then Some n else first_that test ns

-- whether a page is still to be copied
abbrev pub is_left : BuildState → ℕ → Bool
is_left b page = not (is_some (scanned_at b.scans page))

-- the lowest page of a range that is still to be copied
abbrev pub next_page : BuildState → ℕ → Option ℕ
next_page b range = first_that (is_left b) (range_pages b.ends range)

-- the lowest range with such a page
abbrev pub open_range : BuildState → Option ℕ
open_range b = first_that (λ range. is_some (next_page b range)) (range_with_len 0 (length b.ends))
