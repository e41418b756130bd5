-- Why a run comes to nothing.
use Rattle.std.specs.Prelude.{◌≡◌, ℕ, List}
use Rattle.std.specs.String.{string_bytes}
use Rattle.keybytes.specs.declared.fault.Fault.TheVariants.{Memory}
use Rattle.csv_index.specs.declared.table.failure.Failure.{Failure}
use Rattle.csv_index.specs.declared.table.failure.Failure.TheVariants.{CannotRead, CannotPrint, Refused, KeyCell, Row, Table}
use Rattle.csv_index.specs.declared.table.refusal.Refusal.{Refusal}

-- the failure names that refusal and its text, unless there was no memory to tell it
abbrev pub NamesRefusal : Refusal → List ℕ → Failure → Type 0
NamesRefusal refusal text (Refused told named) = (told ≡ refusal) × (string_bytes named ≡ text)
NamesRefusal refusal text (Table fault) = fault ≡ Memory
NamesRefusal refusal text (CannotRead error) = ⊥
NamesRefusal refusal text CannotPrint = ⊥
NamesRefusal refusal text (KeyCell fault key column) = ⊥
NamesRefusal refusal text (Row line row column) = ⊥

-- there was no memory
abbrev pub LacksMemory : Failure → Type 0
LacksMemory failure = failure ≡ Table Memory
