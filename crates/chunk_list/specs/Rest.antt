-- What the iterators over the chunks of a queue have left together.
use Rattle.std.specs.Prelude.{List, ◌++◌}
use Rattle.std.specs.Global.{Global}
use Rattle.std.specs.List.{flat_map}
use Rattle.std.specs.VecDeque.{deque_items}
use Rattle.std.specs.VecDeque.Iter.{deque_iter_rest}
use Rattle.std.specs.declared.collections.VecDeque.{VecDeque}
use Rattle.std.specs.declared.collections.vec_deque.Iter.{Iter}

-- the items that are left of a chunk, those of the full ones that are left, those that are left of the last
abbrev pub rest_of : {T : Type 0} → Iter T → Iter (VecDeque T Global) → Iter T → List T
rest_of first full last = deque_iter_rest first ++ (flat_map deque_items (deque_iter_rest full) ++ deque_iter_rest last)
