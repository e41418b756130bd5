-- A load that is under way.
use Rattle.std.specs.Prelude.{◌≡◌, ◌⊎◌, ◌≤◌, ℕ, List, [], ◌∷◌, ◌++◌, Option, None, Some, length}
use Rattle.std.specs.List.{All}
use Rattle.keybytes.specs.declared.pair.Pair.{Pair}
use Rattle.tree_nodes.specs.Lists.{IsRising}
use Rattle.btree.specs.declared.loader.Full.{Full}
use Rattle.btree.specs.declared.loader.Loader.TheInside.{Inside}
use Rattle.btree.specs.Marks.{Mark, Between, mark_before, items_of, pairs_in, leaves_in}
use Rattle.btree.specs.Splits.{IsTidy}
use Rattle.btree.specs.TreeValue.{AreFilledAbove}

-- the marks in front of the leaf that is being filled
abbrev pub marks_behind : Option Full → List Mark
marks_behind None = []
marks_behind (Some full) = full.root.marks ++ Between full.separator ∷ []

abbrev pub height_behind : Option Full → ℕ
height_behind None = 0
height_behind (Some full) = full.root.height

-- the leaves in front of it
abbrev pub leaves_behind : Option Full → List (List Pair)
leaves_behind None = []
leaves_behind (Some full) = leaves_in full.root.marks

-- they have 32 pairs each
abbrev pub BehindFull : Option Full → Type 0
BehindFull None = Unit {0}
BehindFull (Some full) = All (λ leaf. length leaf ≡ 32) (leaves_in full.root.marks)

-- the levels above them are filled
abbrev pub LevelsBehind : Option Full → Type 0
LevelsBehind None = Unit {0}
LevelsBehind (Some full) = AreFilledAbove (length (leaves_in full.root.marks)) full.root.levels

abbrev pub loaded : Inside → List Pair
loaded a = pairs_in (marks_behind a.full) ++ a.leaf

-- pairs and separators rise, the leaf has a pair where there are others, those have 32 each, levels are filled, and height and count are as they are
pub record IsLoading (a : Inside) : Type 0 where
  pub rising : IsRising mark_before (marks_behind a.full ++ items_of a.leaf)
  pub begun : (marks_behind a.full ≡ []) ⊎ (1 ≤ length a.leaf)
  pub full : BehindFull a.full
  pub levels : LevelsBehind a.full
  pub height_is : a.height ≡ height_behind a.full
  pub count_is : a.count ≡ length (loaded a)
  pub tidy : IsTidy a.spare
