-- What an iterator over a tree has left.
use Rattle.std.specs.Prelude.{List, [], ◌++◌, Option, None, Some}
use Rattle.std.specs.Borrow.{Bor}
use Rattle.std.specs.List.{take_while}
use Rattle.keybytes.specs.declared.pair.Pair.{Pair}
use Rattle.btree.specs.declared.pairs.Pairs.{Pairs}
use Rattle.btree.specs.declared.range.Range.{Range}
use Rattle.btree.specs.Marks.{Mark, pairs_in}
use Rattle.btree.specs.Seen.{Seen}
use Rattle.btree.specs.From.{from_next}
use Rattle.btree.specs.TreeValue.{is_less}

abbrev pub marks_of : Option (Bor Seen) → List Mark
marks_of None = []
marks_of (Some root) = root.now.marks

-- what is left of the leaf, then the pairs from the separator behind it on
abbrev pub pairs_left : Pairs → List Pair
pairs_left s = s.leaf.now ++ from_next s.next (pairs_in (marks_of s.root))

-- those of them that come before the first key that is too great
abbrev pub range_left : Range → List Pair
range_left s = take_while (λ pair. is_less pair.key s.end) (pairs_left s.pairs)
