-- Where the columns of a table stand in the header of a file.
use Rattle.std.specs.Prelude.{◌≡◌, ◌≢◌, ◌⊎◌, ◌<◌, ◌≤◌, ℕ, List, Some}
use Rattle.std.specs.List.{AllZip}
use Rattle.std.specs.String.{string_bytes}
use Rattle.csv.specs.Records.{field_at}
use Rattle.csv_index.specs.Failures.{NamesRefusal}
use Rattle.csv_index.specs.declared.table.column.Column.{Column}
use Rattle.csv_index.specs.declared.table.failure.Failure.{Failure}
use Rattle.csv_index.specs.declared.table.refusal.Refusal.TheVariants.{Missing, Twice}
use Rattle.csv_index.specs.declared.table.source.Source.{Source}

-- the name stands at none of the places from one on and before another
abbrev pub IsAbsent : List (List ℕ) → List ℕ → ℕ → ℕ → Type 0
IsAbsent header name from to = (place : ℕ) → from ≤ place → place < to → field_at header place ≢ Some name

-- the name stands at that place, which is the first from one on
pub record IsFirstFrom (header : List (List ℕ)) (name : List ℕ) (from place : ℕ) : Type 0 where
  pub onward : from ≤ place
  pub there : field_at header place ≡ Some name
  pub first : IsAbsent header name from place

-- the name stands at that place of the header, and at no other
pub record StandsAlone (header : List (List ℕ)) (name : List ℕ) (place : ℕ) : Type 0 where
  pub there : field_at header place ≡ Some name
  pub alone : (other : ℕ) → field_at header other ≡ Some name → other ≡ place

-- the name stands at two places of the header
pub record StandsTwice (header : List (List ℕ)) (name : List ℕ) : Type 0 where
  pub first : ℕ
  pub second : ℕ
  pub apart : first < second
  pub there : field_at header first ≡ Some name
  pub again : field_at header second ≡ Some name

-- a column's cells are taken from where its name stands alone
pub record IsSourceOf (header : List (List ℕ)) (column : Column) (source : Source) : Type 0 where
  pub place : StandsAlone header (string_bytes column.name) source.at
  pub kind : source.kind ≡ column.kind

-- so are those of all columns
abbrev pub AreFound : List (List ℕ) → List Column → List Source → Type 0
AreFound header columns sources = AllZip (IsSourceOf header) columns sources

-- why a name has no place: it stands nowhere in the header, or at two places
abbrev pub IsNotFound : List (List ℕ) → List ℕ → Failure → Type 0
IsNotFound header name failure =
    (NamesRefusal Missing name failure × ((place : ℕ) → field_at header place ≢ Some name)) ⊎ (NamesRefusal Twice name failure × StandsTwice header name)
