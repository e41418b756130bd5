-- An index that was prepared for a change, and the change made.
use Rattle.std.proofs.Common.{◌≡◌, true, List}
use Rattle.keybytes.specs.Keys.{are_key_columns}
use Rattle.keybytes.specs.Pairs.{AreOrdered, set_of}
use Rattle.keybytes.specs.declared.pair.Pair.{Pair}
use Rattle.heap_table.specs.HeapValue.{HeapValue}
use Rattle.heap_table.specs.Kept.{RowsFit}
use Rattle.heap_table.specs.Pages.{SetsRow}
use Rattle.heap_table.specs.Ready.{IsReady, IsLawfulChange, after_ready}
use Rattle.heap_table.specs.TablePairs.{pairs_at_rest}
use Rattle.heap_table.specs.declared.ready.Ready.{Ready}
use Rattle.key_guards.specs.GuardLists.{key_taken}
use Rattle.visibility.specs.Applied.{apply_entries}
use Rattle.visibility.specs.SideEntries.{entries_of_change}
use Rattle.ready_indexes.specs.Following.{GuardedIndex, Follows, IsPrepared}
use Rattle.ready_indexes.specs.Indexes.{IsIndex}
use Rattle.ready_indexes.proofs.Follow.{row_follows, rest_is_index, rows_fit_after}
use Rattle.ready_indexes.proofs.KeysTaken.{taken_is}

-- the key that leaves is the one that the change takes
pub takes_key : (ready : Ready) (it : GuardedIndex) → IsPrepared ready it → it.change.delete ≡ key_taken it.index.spec ready.old ready.new
takes_key ready it prepared = taken_is it.index.spec ready.rid ready.old ready.new it.change prepared.entries

module _
    (heap : HeapValue) (ready : Ready) (is : IsReady heap ready) (sets : SetsRow heap.state.log ready.rid ready.new (after_ready heap.state ready).log)
    (it : GuardedIndex) (prepared : IsPrepared ready it) (follows : Follows heap.state.schema heap.state.log it) (left : List Pair)
    (applied : set_of left ≡ apply_entries (entries_of_change ready.rid it.change) (set_of it.index.pairs)) (order : AreOrdered left) where
  -- its pairs are those of the rows that then stand
  pub left_are : left ≡ pairs_at_rest it.index.spec (after_ready heap.state ready).log
  left_are =
      row_follows it.index.spec heap.state.log (after_ready heap.state ready).log ready.rid ready.new sets ready.old it.index.pairs left
      (entries_of_change ready.rid it.change) is.old follows.pairs prepared.entries applied order

  pub is_index_after : RowsFit heap.state.schema heap.state.log → IsLawfulChange heap.state ready → are_key_columns it.index.spec.kinds it.index.spec.columns ≡ true
      → IsIndex it.index.spec left
  is_index_after rows lawful key =
      rest_is_index it.index.spec heap.state.schema (after_ready heap.state ready).log left follows.columns (rows_fit_after heap.state ready rows lawful sets) key
      left_are
