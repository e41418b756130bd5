-- Pages of pairs, whatever their bytes look like.
use Rattle.std.specs.Prelude.{ℕ, ◌+◌, ◌-◌, ◌≡◌, List, [], ◌∷◌, ◌++◌, drop, get_or}
use Rattle.keybytes.specs.declared.rid.Rid.{Rid}
use Rattle.keybytes.specs.declared.pair.Pair.{Pair}

-- the pairs on a page, and how many bytes behind them are free
pub record PageValue : Type 0 where
  pub pairs : List Pair
  pub room : ℕ

-- pair n has that key and that RID
abbrev pub IsPairAt : List Pair → ℕ → List ℕ → Rid → Type 0
IsPairAt pairs n key rid = let pair : Pair = record { key = key; rid = rid } in get_or pairs n pair ≡ pair

-- what stands for a page where there is none: it has no pair, and no room for one
abbrev pub no_page : PageValue
no_page = record { pairs = []; room = 0 }

-- the key of the last of some pairs, or the one before them where there is none
abbrev pub last_behind : List ℕ → List Pair → List ℕ
last_behind before [] = before
last_behind before (p ∷ ps) = last_behind p.key ps

-- the key of the last of a page's pairs, or the empty one
abbrev pub last_key : List Pair → List ℕ
last_key ps = last_behind [] ps

-- how many bytes a page needs for one pair more, where `size` tells how many a pair takes behind a key
abbrev pub size_on : (List ℕ → Pair → ℕ) → PageValue → Pair → ℕ
size_on size page pair = size (last_key page.pairs) pair

-- a page with just one pair
abbrev pub page_with : (List ℕ → Pair → ℕ) → Pair → PageValue
page_with size pair = record { pairs = pair ∷ []; room = 4096 - size [] pair }

-- a page with one pair more
abbrev pub with_pair : (List ℕ → Pair → ℕ) → PageValue → Pair → PageValue
with_pair size page pair = record { pairs = page.pairs ++ pair ∷ []; room = page.room - size_on size page pair }

-- a page without its first n pairs
abbrev pub without_first : PageValue → ℕ → PageValue
without_first page n = record { pairs = drop n page.pairs; room = page.room }

-- how many bytes pairs take, of which the first stands behind a key
abbrev pub pairs_size : (List ℕ → Pair → ℕ) → List ℕ → List Pair → ℕ
pairs_size size before [] = 0
pairs_size size before (p ∷ ps) = size before p + pairs_size size p.key ps

-- the pairs of a page and what is free behind them are the whole page
abbrev pub IsPacked : (List ℕ → Pair → ℕ) → PageValue → Type 0
IsPacked size page = pairs_size size [] page.pairs + page.room ≡ 4096
