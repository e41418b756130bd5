-- What an iterator has left.
use Rattle.std.specs.Prelude.{List, ◌++◌}
use Rattle.std.specs.List.{flat_map}
use Rattle.std.specs.Vec.{vec_items}
use Rattle.chunk_list.specs.Rest.{rest_of}
use Rattle.chunk_list.specs.declared.list_items.ListItems.{ListItems}
use Rattle.chunk_list.specs.declared.queue_items.QueueItems.{QueueItems}

module _ {T : Type 0} where
  -- the items that are left, in order
  abbrev pub list_items_left : ListItems T → List T
  list_items_left it = it.chunk.now ++ flat_map vec_items it.chunks.now

  abbrev pub queue_items_left : QueueItems T → List T
  queue_items_left it = rest_of it.first it.full it.last
