-- A page of pairs, each written behind the one before it.
use Rattle.std.specs.Prelude.{ℕ, ◌-◌, ◌≤◌, ◌<◌, List, [], drop}
use Rattle.keybytes.specs.declared.pair.Pair.{Pair}
use Rattle.run_spool.specs.Pages.{PageValue}
use Rattle.prefix_spool.specs.declared.marks.Marks.{Marks}
use Rattle.prefix_spool.specs.PrefixBytes.{read_behind, StandsBehind}

-- all pairs that were written on a page
abbrev pub written_at : List ℕ → Marks → List Pair
written_at bytes m = read_behind m.count [] bytes

-- those that aren't freed
abbrev pub left_at : List ℕ → Marks → List Pair
left_at bytes m = drop m.freed (written_at bytes m)

-- the pairs stand from the page's begin to `end`, and at least one of them isn't freed; the pair with the cursor's number begins at the
-- offset, behind the cursor's key
pub record IsPage (bytes : List ℕ) (m : Marks) (before : List ℕ) : Type 0 where
  pub stored : StandsBehind bytes 0 m.end [] (written_at bytes m)
  pub some_left : m.freed < m.count
  pub reached : m.cursor ≤ m.count
  pub ahead : StandsBehind bytes m.offset m.end before (drop m.cursor (written_at bytes m))

-- what the fields of a page stand for
abbrev pub page_value : List ℕ → Marks → PageValue
page_value bytes m = record { pairs = left_at bytes m; room = 4096 - m.end }
