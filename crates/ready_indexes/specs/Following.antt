-- How ready indexes follow their table: what stands beside each of them, and what a change of a row means for it.
use Rattle.std.specs.Prelude.{◌≡◌, ℕ, Bool, true, List, [], ◌∷◌, ◌++◌, map, None, IsSome, IfSome}
use Rattle.std.specs.List.{All}
use Rattle.keybytes.specs.Cells.{fits}
use Rattle.keybytes.specs.Keys.{KeySpecValue}
use Rattle.keybytes.specs.Pairs.{pair_with}
use Rattle.keybytes.specs.declared.kind.Kind.{Kind}
use Rattle.keybytes.specs.declared.pair.Pair.{Pair}
use Rattle.heap_log.specs.Growing.{UndoesNameEarlier}
use Rattle.heap_log.specs.declared.record.LogRec.{LogRec}
use Rattle.heap_table.specs.HeapState.{HeapState, busy_txns}
use Rattle.heap_table.specs.Pages.{KeepsRows}
use Rattle.heap_table.specs.Sound.{HoldsFollowLog}
use Rattle.heap_table.specs.TablePairs.{pairs_at_rest}
use Rattle.heap_table.specs.declared.ready.Ready.{Ready}
use Rattle.key_guards.specs.Guarded.{GuardsValue, IsGuarded, HasRoomFor}
use Rattle.key_guards.specs.KeyRefusals.{key_refusal}
use Rattle.key_guards.specs.UniqueKeys.{HaveOwnKeys}
use Rattle.visibility.specs.SideEntries.{changes, entries_of_change}
use Rattle.visibility.specs.declared.change.Change.{Change}
use Rattle.ready_indexes.specs.Indexes.{ReadyValue}

-- an index with what stands beside it: the keys that open transactions may give back, what the change that was prepared last means for it, and
-- whether there is memory for one pair more
pub record GuardedIndex : Type 0 where
  pub index : ReadyValue
  pub guards : GuardsValue
  pub change : Change
  pub room : Bool

-- the indexes of a table, and for how many more there is memory
pub record IndexesValue : Type 0 where
  pub indexes : List GuardedIndex
  pub room : ℕ

-- the indexes alone
abbrev pub indexes_of : List GuardedIndex → List ReadyValue
indexes_of indexes = map (λ it. it.index) indexes

-- an index of that specification has guards that follow the log, if it is unique
abbrev pub HasGuards : List LogRec → KeySpecValue → GuardsValue → Type 0
HasGuards log spec guards = spec.unique ≡ true → IsGuarded spec log guards

-- an index is of a table with these columns and has the pairs of the rows that stand and that it takes, and its guards follow the log
pub record Follows (kinds : List Kind) (log : List LogRec) (it : GuardedIndex) : Type 0 where
  pub columns : it.index.spec.kinds ≡ kinds
  pub pairs : it.index.pairs ≡ pairs_at_rest it.index.spec log
  pub guarded : HasGuards log it.index.spec it.guards

-- so does each of these indexes
abbrev pub AllFollow : List Kind → List LogRec → List GuardedIndex → Type 0
AllFollow kinds log indexes = All (Follows kinds log) indexes

-- the rows that stand before and after the change have the columns of that specification
pub record FitsColumns (ready : Ready) (spec : KeySpecValue) : Type 0 where
  pub old : IfSome ready.old (λ cells. fits spec.kinds cells ≡ true)
  pub new : IfSome ready.new (λ cells. fits spec.kinds cells ≡ true)

-- if it is unique, an index of that specification doesn't refuse the change
abbrev pub LetsIn : List LogRec → Ready → KeySpecValue → Type 0
LetsIn log ready spec = spec.unique ≡ true → (number : ℕ) × (key_refusal number spec log ready.txn ready.old ready.new ≡ None)

-- nor does any of these indexes
abbrev pub AreLetIn : List LogRec → List ReadyValue → Ready → Type 0
AreLetIn log indexes ready = All (λ index. LetsIn log ready index.spec) indexes

-- it is known which pairs the change takes from an index and brings to it, and there is memory for the pair that comes, and to guard the key that
-- a write takes away
pub record IsPrepared (ready : Ready) (it : GuardedIndex) : Type 0 where
  pub entries : entries_of_change ready.rid it.change
      ≡ changes (pair_with it.index.spec ready.rid ready.old) (pair_with it.index.spec ready.rid ready.new)
  pub room : IsSome it.change.insert → it.room ≡ true
  pub guard_room : ready.undone ≡ None → it.index.spec.unique ≡ true → IfSome it.change.delete (HasRoomFor it.guards ready.txn)

-- the log went on by a record that changes no row
pub record GoesOn (old : List LogRec) (added : LogRec) (new : List LogRec) : Type 0 where
  pub log : new ≡ old ++ added ∷ []
  pub rows : KeepsRows old new
  pub undos : UndoesNameEarlier old

-- guards may be begun for an index of that specification: if it is unique, no open transaction has a write that stands, and no two pairs have one key
abbrev pub MayBeGuarded : HeapState → KeySpecValue → Type 0
MayBeGuarded heap spec = spec.unique ≡ true → (busy_txns heap ≡ []) × HaveOwnKeys (pairs_at_rest spec heap.log)

-- an index of that specification, with these pairs, follows the table once guards are begun for it
pub record MayFollow (heap : HeapState) (spec : KeySpecValue) (pairs : List Pair) : Type 0 where
  pub columns : spec.kinds ≡ heap.schema
  pub pairs_are : pairs ≡ pairs_at_rest spec heap.log
  pub holds : HoldsFollowLog heap
  pub guarded : MayBeGuarded heap spec
