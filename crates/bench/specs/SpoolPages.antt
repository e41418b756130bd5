-- How many pages of a spool the pairs of a worker take.
use Rattle.std.specs.Prelude.{ℕ, ◌+◌, ◌*◌, ◌/◌, ◌%◌, ◌==◌, Bool, if◌then◌else◌, nat_le}

-- how many times so many are taken out of that many, the last time perhaps fewer
abbrev pub times : ℕ → ℕ → ℕ
times count size = if count % size == 0 then count / size else count / size + 1

-- a page of 4,096 bytes has room for so many pairs of a key and the eight bytes beside it
abbrev pub pairs_on_page : ℕ → ℕ
pairs_on_page key_size = 4096 / (key_size + 8)

-- each run of 4,096 pairs begins on a page of its own, and so do the pairs that are left
abbrev pub pages_for : ℕ → ℕ → ℕ
pages_for key_size pairs = pairs / 4096 * times 4096 (pairs_on_page key_size) + times (pairs % 4096) (pairs_on_page key_size)

-- a worker's part of so many rows at most: its part of the pages, each with up to 255 rows, both rounded up
abbrev pub share : ℕ → ℕ → ℕ
share rows workers = times rows workers + 510

-- the pairs of a worker's part find room in a spool
abbrev pub fits : ℕ → ℕ → ℕ → Bool
fits rows key_size workers = nat_le (pages_for key_size (share rows workers)) 1024
