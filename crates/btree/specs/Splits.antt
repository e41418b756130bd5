-- A node, and what was split off it.
use Rattle.std.specs.Prelude.{◌≡◌, ℕ, ◌+◌, ◌≤◌, List, [], ◌∷◌, ◌++◌, Option, None, Some, IsSome, vec_len}
use Rattle.keybytes.specs.declared.pair.Pair.{Pair}
use Rattle.tree_nodes.specs.declared.fan.Fan.{Fan}
use Rattle.btree.specs.declared.split.Split.{Split}
use Rattle.btree.specs.declared.spare.Spare.{Spare}
use Rattle.btree.specs.Marks.{Mark, Between}
use Rattle.btree.specs.Seen.{Seen}
use Rattle.std.specs.List.{insert}
use Rattle.tree_nodes.specs.Fans.{children_of, separators_of, IsBlankFan}
use Rattle.btree.specs.Weave.{weave}
use Rattle.btree.specs.Grown.{GrownBy}

-- the marks of a node and of what was split off it
abbrev pub marks_after : List Mark → Option Split → List Mark
marks_after marks None = marks
marks_after marks (Some split) = marks ++ Between split.separator ∷ split.node.marks

-- the marks of a fan, were what was split off its child at that place put behind that child
abbrev pub marks_with : Fan Seen → ℕ → Split → List Mark
marks_with fan place split = weave (insert (children_of fan) (place + 1) split.node) (insert (separators_of fan) place split.separator)

-- what was split off has that height
abbrev pub SplitAt : ℕ → Option Split → Type 0
SplitAt height None = Unit {0}
SplitAt height (Some split) = split.node.height ≡ height

-- the pair is in the node, or in what was split off it
pub record Inserted (p : Pair) (old new : Seen) (split : Option Split) : Type 0 where
  pub grown : GrownBy p old.marks (marks_after new.marks split)
  pub height : new.height ≡ old.height
  pub beside : SplitAt old.height split

-- those marks stand behind the node's, in the node or in what was split off it
pub record Appended (more : List Mark) (old new : Seen) (split : Option Split) : Type 0 where
  pub marks : marks_after new.marks split ≡ old.marks ++ more
  pub height : new.height ≡ old.height
  pub beside : SplitAt old.height split

-- each is blank
abbrev pub AllBlank : List (Fan Seen) → Type 0
AllBlank [] = Unit {0}
AllBlank (fan ∷ fans) = IsBlankFan fan × AllBlank fans

-- a leaf, a key and that many fans
pub record IsStocked (spare : Spare) (fans : ℕ) : Type 0 where
  pub leaf : spare.leaf ≡ Some []
  pub key : IsSome spare.key
  pub blank : AllBlank spare.fans.items
  pub enough : fans ≤ vec_len spare.fans

-- a leaf, if there is one, is empty
abbrev pub LeafBlank : Option (List Pair) → Type 0
LeafBlank None = Unit {0}
LeafBlank (Some pairs) = pairs ≡ []

-- what is there is empty
pub record IsTidy (spare : Spare) : Type 0 where
  pub leaf : LeafBlank spare.leaf
  pub blank : AllBlank spare.fans.items

-- at most that many fans are used
pub record IsUsed (old new : Spare) (fans : ℕ) : Type 0 where
  pub leaf : LeafBlank new.leaf
  pub blank : AllBlank new.fans.items
  pub used : vec_len old.fans ≤ vec_len new.fans + fans
