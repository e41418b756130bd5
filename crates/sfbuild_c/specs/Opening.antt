-- What it takes to open a table and to close it.
use Rattle.std.specs.Prelude.{◌≡◌, ◌⊎◌, ℕ, List, Some, None, is_some, true}
use Rattle.keybytes.specs.Faults.{RefusedFor}
use Rattle.keybytes.specs.declared.fault.Fault.{Fault}
use Rattle.keybytes.specs.declared.kind.Kind.{Kind}
use Rattle.heap_table.specs.HeapState.{empty_heap, limits_refusal}
use Rattle.kept_table.specs.KeptTables.{KeptValue, new_table}
use Rattle.sfbuild_c.specs.Answers.{KeepsCause, TellsFault}
use Rattle.sfbuild_c.specs.KindBytes.{RefusesKinds, SpellsKinds, SpellsTable}
use Rattle.sfbuild_c.specs.declared.session.Session.{Session}

-- a table with the columns that the bytes stand for, of up to so many slots a page and pages, with no row and no index
pub record IsNew (bytes : List ℕ) (slots pages : ℕ) (table : KeptValue) : Type 0 where
  pub kinds : List Kind
  pub columns : SpellsKinds bytes kinds
  pub limits : limits_refusal slots pages ≡ None
  pub table_is : table ≡ record { core = new_table (empty_heap kinds slots pages); decided = None; waited = None }

-- there is no such table: the bytes stand for no columns; or the limits aren't a table's; or there is no memory
abbrev pub RefusesTable : List ℕ → ℕ → ℕ → Fault → Type 0
RefusesTable bytes slots pages fault = RefusesKinds bytes fault ⊎ (SpellsTable bytes × RefusedFor (limits_refusal slots pages) fault)

-- what the status of an open tells: 0 that the table is new, 2 that one is open already, else the fault
abbrev pub Opens : List ℕ → ℕ → ℕ → ℕ → Session → Session → Type 0
Opens bytes slots pages status old new =
    ((status ≡ 0) × (old.held.table ≡ None) × KeepsCause old new × (table : KeptValue) × (new.held.table ≡ Some table) × IsNew bytes slots pages table)
    ⊎ (((status ≡ 2) × (is_some old.held.table ≡ true) × (new ≡ old))
    ⊎ ((fault : Fault) × (old.held.table ≡ None) × (new.held.table ≡ None) × TellsFault status fault new × RefusesTable bytes slots pages fault))

-- no table is open any more; the status is 1 where none was
abbrev pub Closes : ℕ → Session → Session → Type 0
Closes status old new =
    (new.held.table ≡ None) × KeepsCause old new × (((status ≡ 0) × (is_some old.held.table ≡ true)) ⊎ ((status ≡ 1) × (old.held.table ≡ None)))
