-- Keys of ready indexes, and their pairs from a key on.
use Rattle.std.specs.Prelude.{◌≡◌, ℕ, ◌&&◌, Bool, true, false, not, nat_le, if◌then◌else◌, List, [], ◌∷◌, length, take, Option, Some, None, slice_get}
use Rattle.keybytes.specs.Faults.{first_cause}
use Rattle.keybytes.specs.Keys.{KeySpecValue, key_of}
use Rattle.keybytes.specs.Rows.{shape_refusal}
use Rattle.keybytes.specs.Schemas.{same_kinds}
use Rattle.keybytes.specs.declared.cell.Cell.{Cell}
use Rattle.keybytes.specs.declared.fault.Fault.{Fault}
use Rattle.keybytes.specs.declared.fault.Fault.TheVariants.{BadColumn, BadCount}
use Rattle.keybytes.specs.declared.key_col.KeyCol.{KeyCol}
use Rattle.keybytes.specs.declared.kind.Kind.{Kind}
use Rattle.keybytes.specs.declared.pair.Pair.{Pair}
use Rattle.keybytes.specs.declared.rid.Rid.{Rid}
use Rattle.btree.specs.From.{from}
use Rattle.tree_nodes.specs.Order.{is_before}
use Rattle.build_events.specs.BuildSteps.{cause_if}
use Rattle.build_events.specs.CoreState.{LiveState}
use Rattle.ready_indexes.specs.Indexes.{ReadyValue}

-- what makes keys of these columns, of whatever row of the table
abbrev pub keyed_by : List Kind → List KeyCol → KeySpecValue
keyed_by kinds columns = record { kinds = kinds; columns = columns; unique = false; condition = None }

-- and of the first so many columns of an index
abbrev pub first_columns : List Kind → ℕ → KeySpecValue → KeySpecValue
first_columns kinds count spec = keyed_by kinds (take count spec.columns)

-- why no key is made of the first so many columns of an index: none are asked for, it has fewer, or it is of other columns than the table
abbrev pub spec_refusal : List Kind → ℕ → KeySpecValue → Option Fault
spec_refusal kinds count spec =
    first_cause (cause_if (not (nat_le 1 count && nat_le count (length spec.columns))) BadCount)
    (cause_if (not (same_kinds spec.kinds kinds)) BadColumn)

-- the same of an index that there may not be
abbrev pub first_columns_refusal : List Kind → ℕ → Option ReadyValue → Option Fault
first_columns_refusal kinds count None = Some BadCount
first_columns_refusal kinds count (Some index) = spec_refusal kinds count index.spec

-- why no key is made of them for a row, of the index of that number
abbrev pub key_refusal : LiveState → ℕ → ℕ → List Cell → Option Fault
key_refusal live number count row =
    first_cause (first_columns_refusal live.heap.schema count (slice_get live.ready number)) (shape_refusal live.heap.schema row)

-- the key that the first so many columns of an index have of a row
abbrev pub IsFirstKey : List Kind → ℕ → Option ReadyValue → List Cell → List ℕ → Type 0
IsFirstKey kinds count None row key = ⊥
IsFirstKey kinds count (Some index) row key = key ≡ key_of (first_columns kinds count index.spec) row

-- why there is no index of that number
abbrev pub number_refusal : Option ReadyValue → Option Fault
number_refusal None = Some BadCount
number_refusal (Some index) = None

-- pairs without p itself, which can only be the first of those from p on
abbrev pub without : Pair → List Pair → List Pair
without p [] = []
without p (q ∷ qs) = if is_before p q then q ∷ qs else qs

-- the pairs from p on; past it without p itself
abbrev pub onward : Bool → Pair → List Pair → List Pair
onward false p pairs = from p pairs
onward true p pairs = without p (from p pairs)

-- a key and where its row stands
abbrev pub pair_of : List ℕ × Rid → Pair
pair_of found = record { key = found.0; rid = found.1 }

-- an index goes on from p with that pair, if there is one
abbrev pub GoesOnWith : Bool → Pair → Option ReadyValue → Option Pair → Type 0
GoesOnWith past p None found = ⊥
GoesOnWith past p (Some index) found = found ≡ slice_get (onward past p index.pairs) 0
