-- Fields that spell a line have the shape of one.
use Rattle.std.proofs.Common.{◌≡◌, ◌==◌, ℕ, true, false, List, [], ◌∷◌, slice_index, codes, if◌then◌else◌, Some, None, arith, inl, inr, ap, refl, sym, ◌∙◌}
use Rattle.std.specs.List.{AllZip}
use Rattle.std.specs.Str.{bytes_eq}
use Rattle.script.specs.Fields.{SpellEach, SpellsCell, SpellsKind, SpellsNumber, SpellsRid, SpellsSpec, SpellsSpools}
use Rattle.script.specs.Grammars.{IsClear}
use Rattle.script.specs.Lines.{SpellLine, SpellParts, SpellTable, SpellsLabel, name_of}
use Rattle.script.specs.Scripts.{name_of_line, script_grammar}
use Rattle.script.specs.Shapes.{Fit, HasShape, IsRemark, IsSpelled, parts_of, repeated_of, written}
use Rattle.script.specs.declared.command.Command.{Command}
use Rattle.script.specs.declared.command.Command.TheVariants.{Row, Begin, Insert, Update, Delete, Undo, Commit, Get, Start as StartCommand, Scan, Digest, Seal}
use Rattle.script.specs.declared.command.Command.TheVariants.{Load, Feed, Apply, Fence, Switch, Abandon, Side, Pairs, Rest, Spools}
use Rattle.script.specs.declared.command_name.CommandName.{CommandName}
use Rattle.script.specs.declared.command_name.CommandName.TheVariants as name
use Rattle.script.specs.declared.line.Line.{Line}
use Rattle.script.specs.declared.line.Line.TheVariants.{PassedOver, Table as TableLine, Command as CommandLine}
use Rattle.script.specs.declared.part.Part.{Part}
use Rattle.script.specs.declared.part.Part.TheVariants as part
use Rattle.script.specs.declared.table.Table.{Table}

-- a relation of texts to values spells the part
abbrev pub SpellsPart : {A : Type 0} → (List ℕ → A → Type 0) → Part → Type 0
SpellsPart {A} Spells one = (text : List ℕ) (value : A) → Spells text value → IsSpelled one text

label_part : SpellsPart SpellsLabel part.Label
label_part text label spelled = spelled.1

rid_part : SpellsPart SpellsRid part.Rid
rid_part text rid spelled = (rid, spelled)

number_part : SpellsPart SpellsNumber part.Number
number_part text number spelled = (number, spelled)

pub cell_part : SpellsPart SpellsCell part.Cell
cell_part text cell spelled = (cell, spelled)

kind_part : SpellsPart SpellsKind part.Kind
kind_part text kind spelled = (kind, spelled)

pub spec_part : SpellsPart SpellsSpec part.Spec
spec_part text spec spelled = (spec, spelled)

spools_part : SpellsPart SpellsSpools part.Spools
spools_part text choice spelled = (choice, spelled)

-- one text for one value, two for two, and one or more
one_fits : {A : Type 0} (Spells : List ℕ → A → Type 0) (one : Part) → SpellsPart Spells one → (fields : List (List ℕ)) (value : A)
    → AllZip Spells fields (value ∷ []) → Fit (one ∷ []) None fields
one_fits Spells one part_is [] value spelled = spelled
one_fits Spells one part_is (f ∷ []) value spelled = (part_is f value spelled.0, tt)
one_fits Spells one part_is (f ∷ g ∷ fs) value spelled = absurd spelled.1

two_fit : {A : Type 0} (Spells : List ℕ → A → Type 0) (one : Part) → SpellsPart Spells one → (fields : List (List ℕ)) (first second : A)
    → AllZip Spells fields (first ∷ second ∷ []) → Fit (one ∷ one ∷ []) None fields
two_fit Spells one part_is [] first second spelled = spelled
two_fit Spells one part_is (f ∷ fs) first second spelled = (part_is f first spelled.0, one_fits Spells one part_is fs second spelled.1)

more_fit : {A : Type 0} (Spells : List ℕ → A → Type 0) (one : Part) → SpellsPart Spells one → (fields : List (List ℕ)) (values : List A)
    → AllZip Spells fields values → Fit [] (Some one) fields
more_fit Spells one part_is [] values spelled = tt
more_fit Spells one part_is (f ∷ fs) [] spelled = absurd spelled
more_fit Spells one part_is (f ∷ fs) (v ∷ vs) spelled = (part_is f v spelled.0, more_fit Spells one part_is fs vs spelled.1)

pub each_fits : {A : Type 0} (Spells : List ℕ → A → Type 0) (one : Part) → SpellsPart Spells one → (fields : List (List ℕ)) (values : List A)
    → SpellEach Spells fields values → Fit (one ∷ []) (Some one) fields
each_fits Spells one part_is [] values spelled = omega (arith, spelled.0)
each_fits Spells one part_is (f ∷ fs) [] spelled = absurd spelled.1
each_fits Spells one part_is (f ∷ fs) (v ∷ vs) spelled = (part_is f v spelled.1.0, more_fit Spells one part_is fs vs spelled.1.1)

-- the fields of a table and those of a start
pub table_fits : (fields : List (List ℕ)) (table : Table) → SpellTable fields table → Fit (parts_of name.Table) (repeated_of name.Table) fields
table_fits [] table spelled = spelled
table_fits (f ∷ fs) table spelled = ((table.slot_limit, spelled.0), each_fits SpellsKind part.Kind kind_part fs table.kinds.items spelled.1)

-- the fields of a command
pub command_fits : (fields : List (List ℕ)) (command : Command) → SpellParts fields command
    → Fit (parts_of (name_of command)) (repeated_of (name_of command)) fields
command_fits fields (Row cells) spelled = each_fits SpellsCell part.Cell cell_part fields cells.items spelled
command_fits fields (Begin label) spelled = one_fits SpellsLabel part.Label label_part fields label spelled
command_fits [] (Insert label cells) spelled = spelled
command_fits (f ∷ fs) (Insert label cells) spelled = (spelled.0.1, each_fits SpellsCell part.Cell cell_part fs cells.items spelled.1)
command_fits [] (Update label rid cells) spelled = spelled
command_fits (f ∷ []) (Update label rid cells) spelled = absurd spelled.1
command_fits (f ∷ g ∷ fs) (Update label rid cells) spelled =
    (spelled.0.1, ((rid, spelled.1.0), each_fits SpellsCell part.Cell cell_part fs cells.items spelled.1.1))
command_fits [] (Delete label rid) spelled = spelled
command_fits (f ∷ fs) (Delete label rid) spelled = (spelled.0.1, one_fits SpellsRid part.Rid rid_part fs rid spelled.1)
command_fits fields (Undo label) spelled = one_fits SpellsLabel part.Label label_part fields label spelled
command_fits fields (Commit label) spelled = one_fits SpellsLabel part.Label label_part fields label spelled
command_fits fields (Get rid) spelled = one_fits SpellsRid part.Rid rid_part fields rid spelled
command_fits fields (Spools choice) spelled = one_fits SpellsSpools part.Spools spools_part fields choice spelled
command_fits [] (StartCommand start) spelled = spelled
command_fits (f ∷ []) (StartCommand start) spelled = absurd spelled.1
command_fits (f ∷ g ∷ []) (StartCommand start) spelled = absurd spelled.1.1
command_fits (f ∷ g ∷ h ∷ fs) (StartCommand start) spelled =
    let specs = each_fits SpellsSpec part.Spec spec_part fs start.specs.items spelled.1.1.1 in
    ((start.workers, spelled.0), ((start.quota, spelled.1.0), ((start.dealing, spelled.1.1.0), specs)))
command_fits fields (Scan range worker) spelled = two_fit SpellsNumber part.Number number_part fields range worker spelled
command_fits fields (Digest worker) spelled = one_fits SpellsNumber part.Number number_part fields worker spelled
command_fits fields (Seal worker) spelled = one_fits SpellsNumber part.Number number_part fields worker spelled
command_fits fields (Load index) spelled = one_fits SpellsNumber part.Number number_part fields index spelled
command_fits fields (Feed index most) spelled = two_fit SpellsNumber part.Number number_part fields index most spelled
command_fits fields (Apply index most) spelled = two_fit SpellsNumber part.Number number_part fields index most spelled
command_fits [] Switch spelled = tt
command_fits (f ∷ fs) Switch spelled = cc
command_fits [] Fence spelled = tt
command_fits (f ∷ fs) Fence spelled = cc
command_fits [] Abandon spelled = tt
command_fits (f ∷ fs) Abandon spelled = cc
command_fits fields (Side index) spelled = one_fits SpellsNumber part.Number number_part fields index spelled
command_fits fields (Pairs number) spelled = one_fits SpellsNumber part.Number number_part fields number spelled
command_fits fields (Rest spec) spelled = one_fits SpellsSpec part.Spec spec_part fields spec spelled

-- fields that spell a line have its shape
line_shape : (fields : List (List ℕ)) (line : Line) → SpellLine fields line → HasShape fields
line_shape [] PassedOver spelled = spelled
line_shape [] (TableLine table) spelled = spelled
line_shape [] (CommandLine command) spelled = spelled
line_shape (f ∷ fs) PassedOver spelled = inl spelled
line_shape (f ∷ fs) (TableLine table) spelled = inr (name.Table, spelled.0, table_fits fs table spelled.1)
line_shape (f ∷ fs) (CommandLine command) spelled = inr (name_of command, spelled.0, command_fits fs command spelled.1)

-- the name that a text is, where it is one
named : List ℕ → CommandName
named text =
    if bytes_eq text (codes "table") then name.Table
    else if bytes_eq text (codes "row") then name.Row
    else if bytes_eq text (codes "begin") then name.Begin
    else if bytes_eq text (codes "insert") then name.Insert
    else if bytes_eq text (codes "update") then name.Update
    else if bytes_eq text (codes "delete") then name.Delete
    else if bytes_eq text (codes "undo") then name.Undo
    else if bytes_eq text (codes "commit") then name.Commit
    else if bytes_eq text (codes "get") then name.Get
    else if bytes_eq text (codes "spools") then name.Spools
    else if bytes_eq text (codes "start") then name.Start
    else if bytes_eq text (codes "scan") then name.Scan
    else if bytes_eq text (codes "digest") then name.Digest
    else if bytes_eq text (codes "seal") then name.Seal
    else if bytes_eq text (codes "load") then name.Load
    else if bytes_eq text (codes "feed") then name.Feed
    else if bytes_eq text (codes "apply") then name.Apply
    else if bytes_eq text (codes "fence") then name.Fence
    else if bytes_eq text (codes "switch") then name.Switch
    else if bytes_eq text (codes "abandon") then name.Abandon
    else if bytes_eq text (codes "side") then name.Side
    else if bytes_eq text (codes "pairs") then name.Pairs
    else name.Rest

named_written : (one : CommandName) → named (written one) ≡ one
unfolding named
named_written name.Table = refl
named_written name.Row = refl
named_written name.Begin = refl
named_written name.Insert = refl
named_written name.Update = refl
named_written name.Delete = refl
named_written name.Undo = refl
named_written name.Commit = refl
named_written name.Get = refl
named_written name.Spools = refl
named_written name.Start = refl
named_written name.Scan = refl
named_written name.Digest = refl
named_written name.Seal = refl
named_written name.Load = refl
named_written name.Feed = refl
named_written name.Apply = refl
named_written name.Fence = refl
named_written name.Switch = refl
named_written name.Abandon = refl
named_written name.Side = refl
named_written name.Pairs = refl
named_written name.Rest = refl

-- no two names are written alike
same_name : (one other : CommandName) → written one ≡ written other → one ≡ other
same_name one other same = sym (named_written one) ∙ ap named same ∙ named_written other

-- no name is a remark
begins_plain : (one : CommandName) → (slice_index (written one) 0 == 35) ≡ false
begins_plain name.Table = refl
begins_plain name.Row = refl
begins_plain name.Begin = refl
begins_plain name.Insert = refl
begins_plain name.Update = refl
begins_plain name.Delete = refl
begins_plain name.Undo = refl
begins_plain name.Commit = refl
begins_plain name.Get = refl
begins_plain name.Spools = refl
begins_plain name.Start = refl
begins_plain name.Scan = refl
begins_plain name.Digest = refl
begins_plain name.Seal = refl
begins_plain name.Load = refl
begins_plain name.Feed = refl
begins_plain name.Apply = refl
begins_plain name.Fence = refl
begins_plain name.Switch = refl
begins_plain name.Abandon = refl
begins_plain name.Side = refl
begins_plain name.Pairs = refl
begins_plain name.Rest = refl

no_remark : (one : CommandName) → IsRemark (written one) → ⊥
no_remark one remark =
    let both : true ≡ false = ap (λ (text : List ℕ). slice_index text 0 == 35) (sym remark.1) ∙ begins_plain one in cc

-- no command has the name of a table
pub not_table : (command : Command) → name.Table ≡ name_of command → ⊥
not_table (Row cells) is = cc
not_table (Begin label) is = cc
not_table (Insert label cells) is = cc
not_table (Update label rid cells) is = cc
not_table (Delete label rid) is = cc
not_table (Undo label) is = cc
not_table (Commit label) is = cc
not_table (Get rid) is = cc
not_table (Spools choice) is = cc
not_table (StartCommand start) is = cc
not_table (Scan range worker) is = cc
not_table (Digest worker) is = cc
not_table (Seal worker) is = cc
not_table (Load index) is = cc
not_table (Feed index most) is = cc
not_table (Apply index most) is = cc
not_table Fence is = cc
not_table Switch is = cc
not_table Abandon is = cc
not_table (Side index) is = cc
not_table (Pairs number) is = cc
not_table (Rest spec) is = cc

-- lines that the same fields spell have one name
same_line_name : (fields : List (List ℕ)) (one other : Line) → SpellLine fields one → SpellLine fields other → name_of_line one ≡ name_of_line other
same_line_name [] PassedOver other spelled also = absurd spelled
same_line_name [] (TableLine table) other spelled also = absurd spelled
same_line_name [] (CommandLine command) other spelled also = absurd spelled
same_line_name (f ∷ fs) PassedOver PassedOver spelled also = refl
same_line_name (f ∷ fs) PassedOver (TableLine table) spelled also = absurd (no_remark name.Table (rw also.0 at spelled))
same_line_name (f ∷ fs) PassedOver (CommandLine command) spelled also = absurd (no_remark (name_of command) (rw also.0 at spelled))
same_line_name (f ∷ fs) (TableLine table) PassedOver spelled also = absurd (no_remark name.Table (rw spelled.0 at also))
same_line_name (f ∷ fs) (TableLine table) (TableLine other) spelled also = refl
same_line_name (f ∷ fs) (TableLine table) (CommandLine command) spelled also =
    ap Some (same_name name.Table (name_of command) (sym spelled.0 ∙ also.0))
same_line_name (f ∷ fs) (CommandLine command) PassedOver spelled also = absurd (no_remark (name_of command) (rw spelled.0 at also))
same_line_name (f ∷ fs) (CommandLine command) (TableLine table) spelled also =
    ap Some (same_name (name_of command) name.Table (sym spelled.0 ∙ also.0))
same_line_name (f ∷ fs) (CommandLine command) (CommandLine other) spelled also =
    ap Some (same_name (name_of command) (name_of other) (sym spelled.0 ∙ also.0))

pub script_is_clear : IsClear script_grammar
script_is_clear = record { shape = line_shape; one_name = same_line_name }
