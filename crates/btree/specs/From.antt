-- The pairs from some pair on, leaf by leaf.
use Rattle.std.specs.Prelude.{◌≡◌, ℕ, suc, true, false, if◌then◌else◌, List, [], ◌∷◌, ◌++◌, Option, None, Some}
use Rattle.std.specs.Borrow.{Bor}
use Rattle.keybytes.specs.declared.pair.Pair.{Pair}
use Rattle.tree_nodes.specs.Lists.{In}
use Rattle.tree_nodes.specs.Order.{is_before}
use Rattle.btree.specs.Marks.{Mark, Item, Between, mark_before, items_of}

-- the pairs that aren't below p
abbrev pub from : Pair → List Pair → List Pair
from p [] = []
from p (q ∷ qs) = if is_before q p then from p qs else q ∷ qs

-- those that aren't below the separator, if there is one
abbrev pub from_next : Option (Bor Pair) → List Pair → List Pair
from_next None pairs = []
from_next (Some next) pairs = from next.now pairs

-- the separator, and what is behind it
abbrev pub next_marks : Option (Bor Pair) → List Mark → List Mark
next_marks None after = []
next_marks (Some next) after = Between next.now ∷ after

-- the part of a leaf that isn't below p, and the separator behind the leaf
pub record LeafFrom (p : Pair) (marks : List Mark) (leaf : List Pair) (next : Option (Bor Pair)) : Type 0 where
  pub before : List Mark
  pub after : List Mark
  pub is : marks ≡ before ++ (items_of leaf ++ next_marks next after)
  pub below : (m : Mark) → In m before → mark_before m (Item p) ≡ true
  pub reached : (q : Pair) → In q leaf → is_before q p ≡ false
  pub behind : (m : Mark) → In m (next_marks next after) → mark_before (Item p) m ≡ true

-- how many marks are above that separator
abbrev pub above : Pair → List Mark → ℕ
above s [] = 0
above s (m ∷ marks) = if mark_before (Between s) m then suc (above s marks) else above s marks

abbrev pub above_next : Option (Bor Pair) → List Mark → ℕ
above_next None marks = 0
above_next (Some next) marks = suc (above next.now marks)

-- the separator stands behind p
abbrev pub NextAbove : Pair → List Mark → Option (Bor Pair) → Type 0
NextAbove p marks None = Unit {0}
NextAbove p marks (Some next) = (is_before p next.now ≡ true) × In (Between next.now) marks
