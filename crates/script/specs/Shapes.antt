-- Which fields the record of a command has.
use Rattle.std.specs.Prelude.{◌≡◌, ℕ, Bool, true, false, List, [], ◌∷◌, ◌++◌, slice_get, codes, Option, Some, None, ⊤, ◌⊎◌}
use Rattle.std.specs.Option.{option_or}
use Rattle.keybytes.specs.declared.cell.Cell.{Cell}
use Rattle.keybytes.specs.declared.kind.Kind.{Kind}
use Rattle.keybytes.specs.declared.rid.Rid.{Rid}
use Rattle.script.specs.Fields.{is_label, SpellsCell, SpellsDealing, SpellsKind, SpellsNumber, SpellsRid, SpellsSession, SpellsSpec, SpellsSpools}
use Rattle.script.specs.declared.command_name.CommandName.{CommandName}
use Rattle.script.specs.declared.command_name.CommandName.TheVariants.{Table, Row, Begin, Insert, Update, Delete, Undo, Commit, Get, Start, Scan, Digest, Seal}
use Rattle.script.specs.declared.command_name.CommandName.TheVariants.{Load, Feed, Apply, Fence, Switch, Abandon, Side, Pairs, Rest, Spools}
use Rattle.scan_range.specs.declared.dealing.Dealing.{Dealing}
use Rattle.script.specs.declared.part.Part.{Part}
use Rattle.script.specs.declared.part.Part.TheVariants as part
use Rattle.script.specs.declared.spec.Spec.{Spec}
use Rattle.run_spool.specs.declared.choice.SpoolChoice.{SpoolChoice}

-- how the names of commands are written
abbrev pub written : CommandName → List ℕ
written Table = codes "table"
written Row = codes "row"
written Begin = codes "begin"
written Insert = codes "insert"
written Update = codes "update"
written Delete = codes "delete"
written Undo = codes "undo"
written Commit = codes "commit"
written Get = codes "get"
written Spools = codes "spools"
written Start = codes "start"
written Scan = codes "scan"
written Digest = codes "digest"
written Seal = codes "seal"
written Load = codes "load"
written Feed = codes "feed"
written Apply = codes "apply"
written Switch = codes "switch"
written Fence = codes "fence"
written Abandon = codes "abandon"
written Side = codes "side"
written Pairs = codes "pairs"
written Rest = codes "rest"

-- a session may have commands of that name
abbrev pub is_of_session : CommandName → Bool
is_of_session Table = false
is_of_session Row = false
is_of_session Begin = true
is_of_session Insert = true
is_of_session Update = true
is_of_session Delete = true
is_of_session Undo = true
is_of_session Commit = true
is_of_session Get = false
is_of_session Spools = false
is_of_session Start = false
is_of_session Scan = false
is_of_session Digest = false
is_of_session Seal = false
is_of_session Load = false
is_of_session Feed = false
is_of_session Apply = false
is_of_session Switch = false
is_of_session Fence = false
is_of_session Abandon = false
is_of_session Side = false
is_of_session Pairs = false
is_of_session Rest = false

-- what the fields behind a name spell, one part each
abbrev pub parts_of : CommandName → List Part
parts_of Table = part.Number ∷ part.Kind ∷ []
parts_of Row = part.Cell ∷ []
parts_of Begin = part.Label ∷ []
parts_of Insert = part.Label ∷ part.Cell ∷ []
parts_of Update = part.Label ∷ part.Rid ∷ part.Cell ∷ []
parts_of Delete = part.Label ∷ part.Rid ∷ []
parts_of Undo = part.Label ∷ []
parts_of Commit = part.Label ∷ []
parts_of Get = part.Rid ∷ []
parts_of Spools = part.Spools ∷ []
parts_of Start = part.Number ∷ part.Number ∷ part.Dealing ∷ part.Spec ∷ []
parts_of Scan = part.Number ∷ part.Number ∷ []
parts_of Digest = part.Number ∷ []
parts_of Seal = part.Number ∷ []
parts_of Load = part.Number ∷ []
parts_of Feed = part.Number ∷ part.Number ∷ []
parts_of Apply = part.Number ∷ part.Number ∷ []
parts_of Switch = []
parts_of Fence = []
parts_of Abandon = []
parts_of Side = part.Number ∷ []
parts_of Pairs = part.Number ∷ []
parts_of Rest = part.Spec ∷ []

-- what any further fields spell, where there may be some
abbrev pub repeated_of : CommandName → Option Part
repeated_of Table = Some part.Kind
repeated_of Row = Some part.Cell
repeated_of Insert = Some part.Cell
repeated_of Update = Some part.Cell
repeated_of Start = Some part.Spec
repeated_of Begin = None
repeated_of Delete = None
repeated_of Undo = None
repeated_of Commit = None
repeated_of Get = None
repeated_of Spools = None
repeated_of Scan = None
repeated_of Digest = None
repeated_of Seal = None
repeated_of Load = None
repeated_of Feed = None
repeated_of Apply = None
repeated_of Switch = None
repeated_of Fence = None
repeated_of Abandon = None
repeated_of Side = None
repeated_of Pairs = None
repeated_of Rest = None

-- the text spells a value of that part
abbrev pub IsSpelled : Part → List ℕ → Type 0
IsSpelled part.Number text = (number : ℕ) × SpellsNumber text number
IsSpelled part.Label text = is_label text ≡ true
IsSpelled part.Rid text = (rid : Rid) × SpellsRid text rid
IsSpelled part.Cell text = (cell : Cell) × SpellsCell text cell
IsSpelled part.Kind text = (kind : Kind) × SpellsKind text kind
IsSpelled part.Dealing text = (dealing : Dealing) × SpellsDealing text dealing
IsSpelled part.Spec text = (spec : Spec) × SpellsSpec text spec
IsSpelled part.Spools text = (choice : SpoolChoice) × SpellsSpools text choice
IsSpelled part.Session text = (session : ℕ) × SpellsSession text session
IsSpelled part.SessionCommand text = (name : CommandName) × (is_of_session name ≡ true) × (text ≡ written name)

-- the part that the field at a place spells: one of its own, or the repeated one
abbrev pub part_at : List Part → Option Part → ℕ → Option Part
part_at parts repeated place = option_or (slice_get parts place) repeated

-- the fields spell the parts, one each, and further fields the repeated one
abbrev pub Fit : List Part → Option Part → List (List ℕ) → Type 0
Fit (one ∷ parts) repeated (field ∷ fields) = IsSpelled one field × Fit parts repeated fields
Fit (one ∷ parts) repeated [] = ⊥
Fit [] repeated [] = ⊤
Fit [] None (field ∷ fields) = ⊥
Fit [] (Some one) (field ∷ fields) = IsSpelled one field × Fit [] (Some one) fields

-- the fields behind a name are those that it wants
abbrev pub Fits : CommandName → List (List ℕ) → Type 0
Fits name fields = Fit (parts_of name) (repeated_of name) fields

-- the text is the beginning of a remark
abbrev pub IsRemark : List ℕ → Type 0
IsRemark text = (remark : List ℕ) × (text ≡ codes "#" ++ remark)

-- the fields are a remark, or a name and fields that fit it
abbrev pub HasShape : List (List ℕ) → Type 0
HasShape [] = ⊥
HasShape (first ∷ fields) = IsRemark first ⊎ ((name : CommandName) × (first ≡ written name) × Fits name fields)
