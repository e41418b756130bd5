use Rattle.std.proofs.Common.{◌≡◌, ◌++◌, ◌≤◌, length, true}
use Rattle.std.specs.List.{All, AllZip}
use Rattle.keybytes.specs.Keys.{are_key_columns}
use Rattle.heap_table.specs.HeapState.{HeapState}
use Rattle.ready_indexes.specs.Following.{AllFollow, MayFollow, indexes_of}
use Rattle.live_lemmas.specs.CatchingUp.{IsDoneIndex, ready_of}
use Rattle.live_table.proofs.live.switch.make_ready.Given as goal

abbrev pub invariant-loop-spec : goal.invariant-loop-spec
invariant-loop-spec l = record {
  ready : indexes_of l.ready.indexes ++ ready_of l.spec-iterator.rest.items l.indexes.rest.items
      ≡ indexes_of l.initial.ready.indexes ++ ready_of l.fn.specs.items l.fn.indexes.items;
  done : AllZip IsDoneIndex l.spec-iterator.rest.items l.indexes.rest.items;
  room : length l.spec-iterator.rest.items ≤ l.ready.room;
  follow : (heap : HeapState) → All (λ it. MayFollow heap it.spec it.pairs) (ready_of l.fn.specs.items l.fn.indexes.items)
      → AllFollow heap.schema heap.log l.initial.ready.indexes
      → AllFollow heap.schema heap.log l.ready.indexes
      × All (λ it. MayFollow heap it.spec it.pairs) (ready_of l.spec-iterator.rest.items l.indexes.rest.items);
  -- where the columns of those that are left make keys, those of all do
  keys : All (λ spec. are_key_columns spec.kinds spec.columns ≡ true) l.spec-iterator.rest.items
      → All (λ spec. are_key_columns spec.kinds spec.columns ≡ true) l.fn.specs.items;
}
