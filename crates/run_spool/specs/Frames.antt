-- Frames for pages, in a chain.
use Rattle.std.specs.Prelude.{List, map, Option, Some, None}
use Rattle.run_spool.specs.Pages.{PageValue, no_page}

-- the page in a frame, or what stands for it where there is none; `value` tells what a page is
abbrev pub page_in : {P : Type 0} → (P → PageValue) → Option P → PageValue
page_in value None = no_page
page_in value (Some page) = value page

-- the pages at frames
abbrev pub pages_in : {P : Type 0} → (P → PageValue) → List (Option P) → List PageValue
pages_in value frames = map (page_in value) frames
