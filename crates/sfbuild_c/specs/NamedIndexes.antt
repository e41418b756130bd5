-- Indexes as their bytes are read.
use Rattle.std.specs.Prelude.{◌≡◌, ℕ, List, ◌++◌, take, None}
use Rattle.keybytes.specs.Keys.{KeySpecValue}
use Rattle.keybytes.specs.declared.kind.Kind.{Kind}
use Rattle.sfbuild_c.specs.IndexBytes.{index_bytes, IsIndexOf}
use Rattle.sfbuild_c.specs.declared.index_bytes.Named.{Named}

-- what the index that was read is on a table with these columns
abbrev pub named_spec : List Kind → Named → KeySpecValue
named_spec kinds named = record { kinds = kinds; columns = take named.count named.columns; unique = named.unique; condition = None }

-- the bytes are those of this index, and the rest
pub record Begins (kinds : List Kind) (bytes : List ℕ) (spec : KeySpecValue) (rest : List ℕ) : Type 0 where
  pub is_index : IsIndexOf kinds spec
  pub bytes_are : bytes ≡ index_bytes spec ++ rest
