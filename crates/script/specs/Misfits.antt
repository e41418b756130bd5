-- What is wrong with the fields of a record.
use Rattle.std.specs.Prelude.{◌≡◌, ℕ, ◌+◌, ◌<◌, List, [], ◌∷◌, length, slice_get, string_bytes, Option, Some, None}
use Rattle.script.specs.Lines.{AtFirst}
use Rattle.script.specs.Shapes.{IsRemark, IsSpelled, part_at, parts_of, repeated_of, written}
use Rattle.script.specs.declared.command_name.CommandName.{CommandName}
use Rattle.script.specs.declared.misfit.Misfit.{Misfit}
use Rattle.script.specs.declared.misfit.Misfit.TheVariants.{Behind, BehindInRace, InSession, UnknownCommand, UnknownInRace}
use Rattle.script.specs.declared.part.Part.{Part}
use Rattle.script.specs.declared.unfit.Unfit.{Unfit}
use Rattle.script.specs.declared.unfit.Unfit.TheVariants.{TooFew, TooMany, Misspelled}

-- the text is neither the name of a command nor a remark
abbrev pub IsUnknown : List ℕ → Type 0
IsUnknown text = ((name : CommandName) → ¬ (text ≡ written name)) × ¬ (IsRemark text)

-- the first field, or no text
abbrev pub first_of : List (List ℕ) → List ℕ
first_of [] = []
first_of (first ∷ rest) = first

-- in which way the fields do not fit the parts, where the first of them has that number in its record
abbrev pub TellsUnfit : List Part → Option Part → ℕ → List (List ℕ) → Unfit → Type 0
TellsUnfit parts repeated first fields TooFew = length fields < length parts
TellsUnfit parts repeated first fields TooMany = (repeated ≡ None) × (length parts < length fields)
TellsUnfit parts repeated first fields (Misspelled number text part) =
    (place : ℕ) × (number ≡ first + place) × (slice_get fields place ≡ Some (string_bytes text))
    × (part_at parts repeated place ≡ Some part) × ¬ (IsSpelled part (string_bytes text))

-- what is wrong with the fields behind a name
abbrev pub TellsMisfitBehind : CommandName → List (List ℕ) → Misfit → Type 0
TellsMisfitBehind name fields (Behind named unfit) = (named ≡ name) × TellsUnfit (parts_of name) (repeated_of name) 2 fields unfit
TellsMisfitBehind name fields (UnknownCommand text) = ⊥
TellsMisfitBehind name fields (UnknownInRace text) = ⊥
TellsMisfitBehind name fields (BehindInRace named unfit) = ⊥
TellsMisfitBehind name fields (InSession named unfit) = ⊥

-- what is wrong with the fields of a record
abbrev pub TellsMisfit : List (List ℕ) → Misfit → Type 0
TellsMisfit fields (UnknownCommand text) = (string_bytes text ≡ first_of fields) × IsUnknown (first_of fields)
TellsMisfit fields (Behind named unfit) =
    AtFirst (λ first parts. (name : CommandName) × (first ≡ written name) × TellsMisfitBehind name parts (Behind named unfit)) fields
TellsMisfit fields (UnknownInRace text) = ⊥
TellsMisfit fields (BehindInRace name unfit) = ⊥
TellsMisfit fields (InSession name unfit) = ⊥
