-- What a field of a file is in a table.
use Rattle.std.specs.Prelude.{◌≡◌, ◌≢◌, ◌⊎◌, ℕ, List, [], IsUtf8, codes, if◌then◌else◌}
use Rattle.keybytes.specs.Cells.{IsCell}
use Rattle.keybytes.specs.declared.cell.Cell.{Cell}
use Rattle.keybytes.specs.declared.cell.Cell.TheVariants.{Null, Int, Text, Flag}
use Rattle.keybytes.specs.declared.kind.Kind.{Kind}
use Rattle.keybytes.specs.declared.kind.Kind.TheVariants.{Int as IntKind, Text as TextKind, Flag as FlagKind}
use Rattle.std.specs.Str.Parse.{IsNumeral, signed_digits_value, without_leading_sign}

-- a field of a column of that kind is read as the cell: an empty one as Null, one of digits, with or without a sign in front, as
-- their number, and any other as what it says
abbrev pub ReadsAs : Kind → List ℕ → Cell → Type 0
ReadsAs kind field Null = field ≡ []
ReadsAs kind field (Int number) = (kind ≡ IntKind) × IsNumeral 10 (without_leading_sign field) × (number ≡ signed_digits_value 10 field)
ReadsAs kind field (Text bytes) = (kind ≡ TextKind) × (field ≢ []) × (field ≡ bytes)
ReadsAs kind field (Flag flag) = (kind ≡ FlagKind) × (field ≡ (if flag then codes "true" else codes "false"))

-- the field isn't UTF-8, or is read as no cell that a row may hold
abbrev pub IsNoCell : Kind → List ℕ → Type 0
IsNoCell kind field = (IsUtf8 field → ⊥) ⊎ ((cell : Cell) → IsCell cell → ReadsAs kind field cell → ⊥)
