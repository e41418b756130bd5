-- A page on which each pair stands with its whole key.
use Rattle.std.specs.Prelude.{ℕ, ◌-◌, ◌≤◌, List, drop}
use Rattle.keybytes.specs.declared.pair.Pair.{Pair}
use Rattle.run_spool.specs.declared.marks.Marks.{Marks}
use Rattle.run_spool.specs.Bytes.{read_pairs, Stored, pair_size}
use Rattle.run_spool.specs.Pages.{PageValue}

-- how many bytes a pair takes, whatever stands before it
abbrev pub plain_size : List ℕ → Pair → ℕ
plain_size before pair = pair_size pair

-- the pairs that the marks speak of
abbrev pub pairs_at : List ℕ → Marks → List Pair
pairs_at bytes m = read_pairs m.count (drop m.start bytes)

-- the pairs stand from `start` to `end`, and that with the cursor's number begins at the offset
pub record IsPage (bytes : List ℕ) (m : Marks) : Type 0 where
  pub stored : Stored bytes m.start m.end (pairs_at bytes m)
  pub reached : m.cursor ≤ m.count
  pub ahead : Stored bytes m.offset m.end (drop m.cursor (pairs_at bytes m))

-- what the fields of a page stand for
abbrev pub page_value : List ℕ → Marks → PageValue
page_value bytes m = record { pairs = pairs_at bytes m; room = 4096 - m.end }
