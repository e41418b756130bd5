-- Runs of pairs on pages.
use Rattle.std.specs.Prelude.{ℕ, ◌+◌, ◌-◌, ◌^◌, ◌<◌, ◌≡◌, nat_lt, if◌then◌else◌, List, [], ◌∷◌, ◌++◌, length, drop, take, get_or}
use Rattle.std.specs.List.{All, flat_map}
use Rattle.keybytes.specs.declared.pair.Pair.{Pair}
use Rattle.run_spool.specs.Pages.{PageValue, no_page, size_on, with_pair, without_first}

-- the pairs of a page
abbrev pub page_pairs : PageValue → List Pair
page_pairs page = page.pairs

-- the pairs of a run, in order
abbrev pub pairs_of : List PageValue → List Pair
pairs_of run = flat_map page_pairs run

-- a page has a pair that is not freed
abbrev pub HasPairs : PageValue → Type 0
HasPairs page = 0 < length page.pairs

-- the first of some pages
abbrev pub first_of : List PageValue → PageValue
first_of run = get_or run 0 no_page

-- the last of some pages
abbrev pub last_of : List PageValue → PageValue
last_of run = get_or run (length run - 1) no_page

-- a run with another first page
abbrev pub with_first : List PageValue → PageValue → List PageValue
with_first run page = page ∷ drop 1 run

-- a run with another last page
abbrev pub with_last : List PageValue → PageValue → List PageValue
with_last run page = take (length run - 1) run ++ page ∷ []

-- a run with one pair more on its last page
abbrev pub on_last : (List ℕ → Pair → ℕ) → List PageValue → Pair → List PageValue
on_last size run pair = with_last run (with_pair size (last_of run) pair)

-- the pages of a run without its first n pairs: a page on which none is left is gone
abbrev pub without_pairs : ℕ → List PageValue → List PageValue
without_pairs n [] = []
without_pairs n (page ∷ run) = if nat_lt n (length page.pairs) then without_first page n ∷ run else without_pairs (n - length page.pairs) run

-- a page had no room for the first of these pairs, if there is one
abbrev pub HadNoRoomFor : (List ℕ → Pair → ℕ) → PageValue → List Pair → Type 0
HadNoRoomFor size page [] = Unit {0}
HadNoRoomFor size page (pair ∷ pairs) = page.room < size_on size page pair

-- so it is of a page and those behind it, each with the pairs of the next one
abbrev pub AreFilledFrom : (List ℕ → Pair → ℕ) → PageValue → List PageValue → Type 0
AreFilledFrom size page [] = Unit {0}
AreFilledFrom size page (next ∷ run) = HadNoRoomFor size page next.pairs × AreFilledFrom size next run

-- a run goes on to another page only where a pair has no room
abbrev pub IsFilled : (List ℕ → Pair → ℕ) → List PageValue → Type 0
IsFilled size [] = Unit {0}
IsFilled size (page ∷ run) = AreFilledFrom size page run

-- the fields of a run: `before` pairs stand on the pages passed, `len` on all, and each page has a pair
pub record IsRun (passed ahead : List PageValue) (before len : ℕ) : Type 0 where
  pub before_is : before ≡ length (pairs_of passed)
  pub len_is : len ≡ length (pairs_of (passed ++ ahead))
  pub each : All HasPairs (passed ++ ahead)
  pub small : length passed + length ahead < 2 ^ 62
