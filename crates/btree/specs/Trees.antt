-- What a tree keeps true.
use Rattle.std.specs.Prelude.{◌≡◌, suc, ◌+◌, ◌^◌, ◌<◌, true, length}
use Rattle.btree.specs.declared.tree.Tree.TheInside.{Inside}
use Rattle.tree_nodes.specs.Lists.{IsRising}
use Rattle.btree.specs.Marks.{mark_before, pairs_in, leaves_in}
use Rattle.btree.specs.Roots.{marks_under, height_under, levels_under}
use Rattle.btree.specs.Splits.{IsStocked, IsTidy}
use Rattle.btree.specs.TreeValue.{TreeValue}

abbrev pub tree_value : Inside → TreeValue
tree_value tree = record {
  pairs = pairs_in (marks_under tree.root);
  room = tree.ready;
  leaves = leaves_in (marks_under tree.root);
  levels = levels_under tree.root;
}

-- pairs and separators rise, height and count are those of the root, and where room is told, there is memory for an insert
pub record IsTree (tree : Inside) : Type 0 where
  pub rising : IsRising mark_before (marks_under tree.root)
  pub height_is : tree.height ≡ height_under tree.root
  pub count_is : tree.count ≡ length (pairs_in (marks_under tree.root))
  pub tidy : IsTidy tree.spare
  pub stocked : tree.ready ≡ true → IsStocked tree.spare (suc tree.height)
  pub more : tree.ready ≡ true → tree.count + 1 < 2 ^ 64
