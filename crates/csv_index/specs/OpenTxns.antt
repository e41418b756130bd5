-- Which transactions are open while a table is filled.
use Rattle.std.specs.Prelude.{◌≡◌, ℕ, false, List, [], ◌∷◌}
use Rattle.heap_table.specs.HeapState.{HeapState}
use Rattle.heap_table.specs.declared.open_txn.OpenTxn.{OpenTxn}

-- none is
abbrev pub NoneIsOpen : HeapState → Type 0
NoneIsOpen s = s.active ≡ []

-- a list of one that goes on
abbrev pub alone : ℕ → List OpenTxn
alone txn = record { txn = txn; ending = false } ∷ []

-- that one is, and no other
abbrev pub IsAlone : ℕ → HeapState → Type 0
IsAlone txn s = s.active ≡ alone txn

-- the same ones are
abbrev pub KeepsOpen : HeapState → HeapState → Type 0
KeepsOpen before after = after.active ≡ before.active
