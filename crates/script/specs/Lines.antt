-- What the fields of a record ask for.
use Rattle.std.specs.Prelude.{◌≡◌, ℕ, true, List, [], ◌∷◌}
use Rattle.std.specs.List.{AllZip}
use Rattle.keybytes.specs.declared.cell.Cell.{Cell}
use Rattle.keybytes.specs.declared.rid.Rid.{Rid}
use Rattle.script.specs.Fields.{is_label, SpellEach, SpellsCell, SpellsDealing, SpellsKind, SpellsNumber, SpellsRid, SpellsSpec, SpellsSpools}
use Rattle.script.specs.Shapes.{IsRemark, written}
use Rattle.script.specs.declared.line.Line.{Line}
use Rattle.script.specs.declared.line.Line.TheVariants.{PassedOver, Table as TableLine, Command as CommandLine}
use Rattle.script.specs.declared.command.Command.{Command}
use Rattle.script.specs.declared.command.Command.TheVariants.{Row, Begin, Insert, Update, Delete, Undo, Commit, Get, Start as StartCommand, Scan, Digest, Seal}
use Rattle.script.specs.declared.command.Command.TheVariants.{Load, Feed, Apply, Fence, Switch, Abandon, Side, Pairs, Rest, Spools}
use Rattle.script.specs.declared.command_name.CommandName.{CommandName}
use Rattle.script.specs.declared.command_name.CommandName.TheVariants as name
use Rattle.script.specs.declared.race.build.Build.{Build}
use Rattle.script.specs.declared.start.Start.{Start}
use Rattle.script.specs.declared.table.Table.{Table}

-- there is a first field, and P holds of it and of those behind it
abbrev pub AtFirst : (List ℕ → List (List ℕ) → Type 0) → List (List ℕ) → Type 0
AtFirst P [] = ⊥
AtFirst P (first ∷ rest) = P first rest

-- the text spells the label
abbrev pub SpellsLabel : List ℕ → List ℕ → Type 0
SpellsLabel text label = (text ≡ label) × (is_label text ≡ true)

-- the fields of a record `table`: the most slots of a page, and the kinds of the columns
abbrev pub SpellTable : List (List ℕ) → Table → Type 0
SpellTable fields table = AtFirst (λ limit columns. SpellsNumber limit table.slot_limit × SpellEach SpellsKind columns table.kinds.items) fields

-- a label and the cells of a row
abbrev pub SpellLabelAndCells : List (List ℕ) → List ℕ → List Cell → Type 0
SpellLabelAndCells fields label cells = AtFirst (λ txn columns. SpellsLabel txn label × SpellEach SpellsCell columns cells) fields

-- a label, a RID and the cells of a row
abbrev pub SpellLabelRidAndCells : List (List ℕ) → List ℕ → Rid → List Cell → Type 0
SpellLabelRidAndCells fields label rid cells =
    AtFirst (λ txn more. SpellsLabel txn label
    × AtFirst (λ place columns. SpellsRid place rid × SpellEach SpellsCell columns cells) more) fields

-- a label and a RID
abbrev pub SpellLabelAndRid : List (List ℕ) → List ℕ → Rid → Type 0
SpellLabelAndRid fields label rid = AtFirst (λ txn more. SpellsLabel txn label × AllZip SpellsRid more (rid ∷ [])) fields

-- the fields of a record `start`: workers, the quota, the dealing and the indexes
abbrev pub SpellStart : List (List ℕ) → Start → Type 0
SpellStart fields start =
    AtFirst (λ workers more. SpellsNumber workers start.workers
    × AtFirst (λ quota more. SpellsNumber quota start.quota
    × AtFirst (λ ranges indexes. SpellsDealing ranges start.dealing × SpellEach SpellsSpec indexes start.specs.items) more) more) fields

-- the fields of a record `build`: the quota, the dealing and the indexes
abbrev pub SpellBuild : List (List ℕ) → Build → Type 0
SpellBuild fields build =
    AtFirst (λ quota more. SpellsNumber quota build.quota
    × AtFirst (λ ranges indexes. SpellsDealing ranges build.dealing × SpellEach SpellsSpec indexes build.specs.items) more) fields

-- the name of a command
abbrev pub name_of : Command → CommandName
name_of (Row cells) = name.Row
name_of (Begin label) = name.Begin
name_of (Insert label cells) = name.Insert
name_of (Update label rid cells) = name.Update
name_of (Delete label rid) = name.Delete
name_of (Undo label) = name.Undo
name_of (Commit label) = name.Commit
name_of (Get rid) = name.Get
name_of (Spools choice) = name.Spools
name_of (StartCommand start) = name.Start
name_of (Scan range worker) = name.Scan
name_of (Digest worker) = name.Digest
name_of (Seal worker) = name.Seal
name_of (Load index) = name.Load
name_of (Feed index most) = name.Feed
name_of (Apply index most) = name.Apply
name_of Switch = name.Switch
name_of Fence = name.Fence
name_of Abandon = name.Abandon
name_of (Side index) = name.Side
name_of (Pairs number) = name.Pairs
name_of (Rest spec) = name.Rest

-- the fields behind the name spell what the command comes with
abbrev pub SpellParts : List (List ℕ) → Command → Type 0
SpellParts fields (Row cells) = SpellEach SpellsCell fields cells.items
SpellParts fields (Begin label) = AllZip SpellsLabel fields (label ∷ [])
SpellParts fields (Insert label cells) = SpellLabelAndCells fields label cells.items
SpellParts fields (Update label rid cells) = SpellLabelRidAndCells fields label rid cells.items
SpellParts fields (Delete label rid) = SpellLabelAndRid fields label rid
SpellParts fields (Undo label) = AllZip SpellsLabel fields (label ∷ [])
SpellParts fields (Commit label) = AllZip SpellsLabel fields (label ∷ [])
SpellParts fields (Get rid) = AllZip SpellsRid fields (rid ∷ [])
SpellParts fields (Spools choice) = AllZip SpellsSpools fields (choice ∷ [])
SpellParts fields (StartCommand start) = SpellStart fields start
SpellParts fields (Scan range worker) = AllZip SpellsNumber fields (range ∷ worker ∷ [])
SpellParts fields (Digest worker) = AllZip SpellsNumber fields (worker ∷ [])
SpellParts fields (Seal worker) = AllZip SpellsNumber fields (worker ∷ [])
SpellParts fields (Load index) = AllZip SpellsNumber fields (index ∷ [])
SpellParts fields (Feed index most) = AllZip SpellsNumber fields (index ∷ most ∷ [])
SpellParts fields (Apply index most) = AllZip SpellsNumber fields (index ∷ most ∷ [])
SpellParts fields Switch = fields ≡ []
SpellParts fields Fence = fields ≡ []
SpellParts fields Abandon = fields ≡ []
SpellParts fields (Side index) = AllZip SpellsNumber fields (index ∷ [])
SpellParts fields (Pairs number) = AllZip SpellsNumber fields (number ∷ [])
SpellParts fields (Rest spec) = AllZip SpellsSpec fields (spec ∷ [])

-- the fields ask for the line: they are a remark, or a name and what stands behind it
abbrev pub SpellLine : List (List ℕ) → Line → Type 0
SpellLine fields PassedOver = AtFirst (λ first rest. IsRemark first) fields
SpellLine fields (TableLine table) = AtFirst (λ first parts. (first ≡ written name.Table) × SpellTable parts table) fields
SpellLine fields (CommandLine command) = AtFirst (λ first parts. (first ≡ written (name_of command)) × SpellParts parts command) fields
