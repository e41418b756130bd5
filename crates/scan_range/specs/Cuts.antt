-- How the pages of a table are cut into ranges.
use Rattle.std.specs.Prelude.{◌≡◌, ℕ, zero, suc, ◌+◌, ◌-◌, ◌*◌, ◌/◌, ◌≤◌, ◌<◌, Bool, ◌&&◌, nat_lt, nat_le, ◌==◌, if◌then◌else◌, List, [], ◌∷◌, map, length}
use Rattle.std.specs.Prelude.{get_or, Option, Some, None}
use Rattle.std.specs.List.{range_with_len, position}
use Rattle.keybytes.specs.declared.fault.Fault.{Fault}
use Rattle.keybytes.specs.declared.fault.Fault.TheVariants.{BadRanges}

-- the number of pages, and the page behind each range
pub record CutsValue : Type 0 where
  pub pages : ℕ
  pub ends : List ℕ

-- a range begins where the one before it ends
abbrev pub range_start : List ℕ → ℕ → ℕ
range_start ends zero = 0
range_start ends (suc range) = get_or ends range 0

abbrev pub range_end : List ℕ → ℕ → ℕ
range_end ends range = get_or ends range 0

abbrev pub range_pages : List ℕ → ℕ → List ℕ
range_pages ends range = range_with_len (range_start ends range) (range_end ends range - range_start ends range)

-- whether no end lies below that page, nor below the end before it, and the last one is behind all pages
abbrev pub end_at : ℕ → ℕ → List ℕ → Bool
end_at low pages [] = low == pages
end_at low pages (end ∷ ends) = nat_le low end && end_at end pages ends

-- the most ranges of a build
abbrev pub ranges_most : ℕ
ranges_most = 256

-- whether these are the ends of 1 to 256 ranges of so many pages
abbrev pub are_cuts : ℕ → List ℕ → Bool
are_cuts pages ends = nat_lt 0 (length ends) && nat_le (length ends) ranges_most && end_at 0 pages ends

abbrev pub cuts_refusal : ℕ → List ℕ → Option Fault
cuts_refusal pages ends = if are_cuts pages ends then None else Some BadRanges

-- where each of so many ranges ends that differ by at most one page
abbrev pub even_ends : ℕ → ℕ → List ℕ
even_ends pages ranges = map (λ range. pages * (range + 1) / ranges) (range_with_len 0 ranges)

-- why pages aren't dealt into so many ranges
abbrev pub even_refusal : ℕ → Option Fault
even_refusal ranges = if nat_lt 0 ranges && nat_le ranges ranges_most then None else Some BadRanges

-- the range that a page lies in: the first that ends behind it
abbrev pub range_of : List ℕ → ℕ → Option ℕ
range_of ends page = position (nat_lt page) ends

-- the page lies in that range
pub record LiesIn (ends : List ℕ) (page range : ℕ) : Type 0 where
  pub there : range < length ends
  pub low : range_start ends range ≤ page
  pub high : page < range_end ends range

-- each page lies in exactly one range
pub record AreCovered (pages : ℕ) (ends : List ℕ) : Type 0 where
  pub by_one : (page : ℕ) → page < pages → (range : ℕ) × LiesIn ends page range
  pub by_no_other : (page a b : ℕ) → LiesIn ends page a → LiesIn ends page b → a ≡ b
  pub inside : (page range : ℕ) → LiesIn ends page range → page < pages
