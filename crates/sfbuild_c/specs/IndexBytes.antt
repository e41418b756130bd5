-- Indexes that are to be built, as C names them.
use Rattle.std.specs.Prelude.{◌≡◌, ◌≢◌, ◌⊎◌, ℕ, Bool, true, List, [], ◌∷◌, ◌++◌, length, None, if◌then◌else◌}
use Rattle.std.specs.List.{All, flat_map}
use Rattle.keybytes.specs.Keys.{KeySpecValue, are_key_columns}
use Rattle.keybytes.specs.declared.fault.Fault.{Fault}
use Rattle.keybytes.specs.declared.fault.Fault.TheVariants.{BadColumn, Memory}
use Rattle.keybytes.specs.declared.key_col.KeyCol.{KeyCol}
use Rattle.keybytes.specs.declared.kind.Kind.{Kind}

abbrev pub flag_byte : Bool → ℕ
flag_byte flag = if flag then 1 else 0

-- the bytes of a column of an index: its number, and whether its order is turned round
abbrev pub column_bytes : KeyCol → List ℕ
column_bytes named = named.column ∷ flag_byte named.descending ∷ []

-- the bytes of an index: whether it is unique, how many columns it has, and these
abbrev pub index_bytes : KeySpecValue → List ℕ
index_bytes spec = flag_byte spec.unique ∷ length spec.columns ∷ flat_map column_bytes spec.columns

-- an index of each row of a table with these columns
pub record IsIndexOf (kinds : List Kind) (spec : KeySpecValue) : Type 0 where
  pub kinds_are : spec.kinds ≡ kinds
  pub columns : are_key_columns kinds spec.columns ≡ true
  pub all_rows : spec.condition ≡ None

-- the bytes are those of these indexes, one after the other
pub record SpellsIndexes (kinds : List Kind) (bytes : List ℕ) (specs : List KeySpecValue) : Type 0 where
  pub bytes_are : bytes ≡ flat_map index_bytes specs
  pub each : All (IsIndexOf kinds) specs

-- no index begins there
abbrev pub NoIndexBegins : List Kind → List ℕ → Type 0
NoIndexBegins kinds bytes = (spec : KeySpecValue) (rest : List ℕ) → IsIndexOf kinds spec → bytes ≡ index_bytes spec ++ rest → ⊥

-- from the left the bytes are those of indexes, up to where none begins
pub record BreaksOff (kinds : List Kind) (bytes : List ℕ) : Type 0 where
  pub specs : List KeySpecValue
  pub rest : List ℕ
  pub each : All (IsIndexOf kinds) specs
  pub bytes_are : bytes ≡ flat_map index_bytes specs ++ rest
  pub some : rest ≢ []
  pub none : NoIndexBegins kinds rest

-- the bytes are not those of indexes, or they are and there is no memory for these
abbrev pub RefusesIndexes : List Kind → List ℕ → Fault → Type 0
RefusesIndexes kinds bytes fault =
    ((fault ≡ BadColumn) × BreaksOff kinds bytes) ⊎ ((fault ≡ Memory) × (specs : List KeySpecValue) × SpellsIndexes kinds bytes specs)
