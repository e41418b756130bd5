-- What a node is seen as, and what it keeps true.
use Rattle.std.specs.Prelude.{suc, []}
use Rattle.tree_nodes.specs.Lists.{IsRising}
use Rattle.btree.specs.Marks.{mark_before, items_of}
use Rattle.btree.specs.Seen.{Seen}
use Rattle.tree_nodes.specs.Fans.{children_of, separators_of, IsFan}
use Rattle.btree.specs.Weave.{weave, height_of, AllAt}
use Rattle.btree.specs.Levels.{levels_over}
use Rattle.tree_nodes.specs.declared.fan.Fan.{Fan}
use Rattle.btree.specs.declared.node.Kind.{Kind}
use Rattle.btree.specs.declared.node.Kind.TheVariants as kind
use Rattle.btree.specs.declared.node.Node.TheInside.{Inside}

-- a fan over nodes that rise, all of one height
pub record IsFanned (fan : Fan Seen) : Type 0 where
  pub sound : IsFan fan
  pub rising : IsRising mark_before (weave (children_of fan) (separators_of fan))
  pub level : AllAt (height_of (children_of fan)) (children_of fan)

abbrev pub seen_kind : Kind → Seen
seen_kind (kind.Leaf pairs) = record { marks = items_of pairs; height = 0; levels = [] }
seen_kind (kind.Fan fan) = record {
  marks = weave (children_of fan) (separators_of fan);
  height = suc (height_of (children_of fan));
  levels = levels_over (children_of fan);
}

abbrev pub IsKind : Kind → Type 0
IsKind (kind.Leaf pairs) = IsRising mark_before (items_of pairs)
IsKind (kind.Fan fan) = IsFanned fan

abbrev pub seen : Inside → Seen
seen a = seen_kind a.kind

abbrev pub IsNode : Inside → Type 0
IsNode a = IsKind a.kind
