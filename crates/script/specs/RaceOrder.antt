-- In which order the records of a race script come.
use Rattle.std.specs.Prelude.{◌≡◌, ◌==◌, ℕ, ◌+◌, Bool, true, false, List, [], ◌∷◌, ◌++◌, Option, Some, None}
use Rattle.std.specs.List.{list_any}
use Rattle.script.specs.declared.race.line.RaceLine.{RaceLine}
use Rattle.script.specs.declared.race.line.RaceLine.TheVariants.{PassedOver, Table, Row, Spools, Build, Go, In}
use Rattle.script.specs.declared.race.name.RaceName.{RaceName}
use Rattle.script.specs.declared.race.name.RaceName.TheVariants as name

-- the name of a line's record; one that is passed over has none
abbrev pub name_of_line : RaceLine → Option RaceName
name_of_line PassedOver = None
name_of_line (Table table) = Some name.Table
name_of_line (Row cells) = Some name.Row
name_of_line (Spools choice) = Some name.Spools
name_of_line (Build build) = Some name.Build
name_of_line Go = Some name.Go
name_of_line (In session command) = Some name.In

-- what the lines give one after the other, each with its number, where the first line has that number
abbrev pub gathered : {A : Type 0} → (ℕ → RaceLine → List A) → ℕ → List RaceLine → List A
gathered given number [] = []
gathered given number (line ∷ lines) = given number line ++ gathered given (number + 1) lines

-- names as numbers, by which they are told apart
abbrev pub rank : RaceName → ℕ
rank name.Table = 0
rank name.Row = 1
rank name.Spools = 2
rank name.Build = 3
rank name.Go = 4
rank name.In = 5

-- one of the names is this one
abbrev pub has : RaceName → List RaceName → Bool
has one some = list_any (λ other. rank other == rank one) some

-- a record of that name may come behind records of these names
abbrev pub MayCome : List RaceName → RaceName → Type 0
MayCome before name.Table = before ≡ []
MayCome before name.Row = has name.Go before ≡ false
MayCome before name.Spools = (has name.Go before ≡ false) × (has name.Spools before ≡ false)
MayCome before name.Build = (has name.Go before ≡ false) × (has name.Build before ≡ false)
MayCome before name.Go = has name.Go before ≡ false
MayCome before name.In = has name.Go before ≡ true

-- a table, a build and `go` are there
abbrev pub AreWhole : List RaceName → Type 0
AreWhole some = (has name.Table some ≡ true) × (has name.Build some ≡ true) × (has name.Go some ≡ true)
