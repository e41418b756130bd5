-- Rows as they are printed.
use Rattle.std.specs.Prelude.{◌≡◌, ℕ, false, true, List, [], ◌∷◌, codes, if◌then◌else◌, map, Option, None, Some}
use Rattle.std.specs.Fmt.{decimal, signed_decimal}
use Rattle.std.specs.Io.KnownBytes.{Appends}
use Rattle.std.specs.List.{flat_map}
use Rattle.std.specs.String.{string_bytes}
use Rattle.csv.specs.Writing.{default_writer, fields_written, has_written, row_text, text_written, writer_setup}
use Rattle.csv.specs.declared.writer.Writer.{Writer}
use Rattle.csv.specs.declared.writer.WriterBuilder.{WriterBuilder}
use Rattle.heap_log.specs.Standing.{live_at}
use Rattle.heap_log.specs.declared.record.LogRec.{LogRec}
use Rattle.keybytes.specs.declared.cell.Cell.{Cell}
use Rattle.keybytes.specs.declared.cell.Cell.TheVariants.{Null, Int, Text, Flag}
use Rattle.keybytes.specs.declared.rid.Rid.{Rid}
use Rattle.csv_index.specs.Lines.{line_of}
use Rattle.csv_index.specs.declared.table.column.Column.{Column}

-- the field of a cell
abbrev pub cell_field : Cell → List ℕ
cell_field Null = []
cell_field (Int number) = signed_decimal number
cell_field (Text bytes) = bytes
cell_field (Flag flag) = if flag then codes "true" else codes "false"

-- the fields of a row: its line, and its cells
abbrev pub row_fields : ℕ → List Cell → List (List ℕ)
row_fields line cells = decimal line ∷ map cell_field cells

-- what the fields are called
abbrev pub header_fields : List Column → List (List ℕ)
header_fields columns = codes "line" ∷ map (λ column. string_bytes column.name) columns

-- the fields of the row that stands somewhere, with that line
abbrev pub fields_there : ℕ → Option (List Cell) → List (List ℕ)
fields_there line None = []
fields_there line (Some cells) = row_fields line cells

-- the fields of the row at a place, with the line that is noted of it
abbrev pub fields_at : List LogRec → List (List ℕ) → Rid → List (List ℕ)
fields_at log lines rid = fields_there (line_of lines rid) (live_at log rid)

-- rows are written with the defaults, as many fields as each has
abbrev pub setup_of_rows : WriterBuilder
setup_of_rows = record default_writer { flexible = true }

-- the text of some records
abbrev pub records_text : List (List (List ℕ)) → List ℕ
records_text records = flat_map (row_text setup_of_rows) records

-- such a writer has ended its last record
pub record IsBetween {W : Type 0} (writer : Writer W) : Type 0 where
  pub setup : writer_setup writer ≡ setup_of_rows
  pub fields : fields_written writer ≡ 0
  pub wrote : has_written writer ≡ false

-- these records were written, each whole
pub record Prints {W : Type 0} (contents : W → Option (List ℕ)) (before after : Writer W) (records : List (List (List ℕ))) : Type 0 where
  pub text : Appends (text_written contents before) (text_written contents after) (records_text records)
  pub between : IsBetween after
