-- The kinds of a table's columns, as C names them.
use Rattle.std.specs.Prelude.{◌≡◌, ℕ, List, None, map}
use Rattle.keybytes.specs.Schemas.{columns_refusal}
use Rattle.keybytes.specs.declared.fault.Fault.{Fault}
use Rattle.keybytes.specs.declared.fault.Fault.TheVariants.{BadColumn}
use Rattle.keybytes.specs.declared.kind.Kind.{Kind}
use Rattle.keybytes.specs.declared.kind.Kind.TheVariants.{Int, Text, Flag}

-- the byte that stands for a kind
abbrev pub kind_byte : Kind → ℕ
kind_byte Int = 1
kind_byte Text = 2
kind_byte Flag = 3

-- the bytes stand for the columns of a table
pub record SpellsKinds (bytes : List ℕ) (kinds : List Kind) : Type 0 where
  pub bytes_are : bytes ≡ map kind_byte kinds
  pub columns : columns_refusal kinds ≡ None

-- the bytes stand for the columns of some table
abbrev pub SpellsTable : List ℕ → Type 0
SpellsTable bytes = (kinds : List Kind) × SpellsKinds bytes kinds

-- the bytes stand for the columns of no table, which is BadColumn
abbrev pub RefusesKinds : List ℕ → Fault → Type 0
RefusesKinds bytes fault = (fault ≡ BadColumn) × (SpellsTable bytes → ⊥)
