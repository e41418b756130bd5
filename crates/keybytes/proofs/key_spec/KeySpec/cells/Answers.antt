use Rattle.std.proofs.Common.{◌≡◌, ℕ, ◌+◌, ◌<◌, ◌≤◌, slice_index_or, Bool, true, false, ◌-◌, List, ◌∷◌, length, take, drop, get_or, sym, ap, ap₂, ◌∙◌, subst, arith}
use Rattle.std.proofs.lemmas.List.{take_rest, get_or_read, drop_all, drop_more, length-map}
use Rattle.keybytes.specs.Keys.{KeySpecValue, are_key_columns, key_columns, key_kinds, HasKey, BeginsWithColumnKey}
use Rattle.keybytes.specs.declared.cell.Cell.{Cell}
use Rattle.keybytes.specs.declared.key_col.KeyCol.{KeyCol}
use Rattle.keybytes.specs.declared.kind.Kind.{Kind}
use Rattle.keybytes.specs.declared.kind.Kind.TheVariants.{Int as IntKind}
use Rattle.keybytes.proofs.KeyLaws.{columns-of_key, has-key}
use Rattle.keybytes.proofs.KeyReads.{ColumnsLeft, columns_begin, columns_more, columns_done}
use Rattle.keybytes.proofs.KeyWrites.{column-within, kinds-more}
use Rattle.keybytes.proofs.key_spec.KeySpec.cells.Goals as goal

-- what stands for a column behind the last
abbrev none : KeyCol
none = record { column = 0; descending = false }

-- the next column is of the kind that the table says
next_left : (spec inside : KeySpecValue) (items : List KeyCol) (i : ℕ) (kind : Kind) (cells read : List Cell) (bytes : List ℕ) (at : ℕ)
    → inside ≡ spec → are_key_columns inside.kinds inside.columns ≡ true → items ≡ inside.columns → i < length items
    → kind ≡ get_or inside.kinds (get_or items i none).column kind → ColumnsLeft cells read (drop i spec.columns) (drop i (key_kinds spec)) bytes at
    → ColumnsLeft cells read (get_or items i none ∷ drop (i + 1) spec.columns) (kind ∷ drop (i + 1) (key_kinds spec)) bytes at
next_left spec inside items i kind cells read bytes at is_spec held is_items within is_kind was =
    let own : items ≡ spec.columns = is_items ∙ ap (λ (s : KeySpecValue). s.columns) is_spec in
    let its : get_or items i none ≡ get_or spec.columns i none = ap (λ (xs : List KeyCol). get_or xs i none) own in
    let there : (get_or items i none).column < length inside.kinds =
    rw is_items (column-within inside.kinds inside.columns i none held (rw is_items at within)) in
    let same : kind ≡ get_or spec.kinds (get_or spec.columns i none).column IntKind =
    get_or_read inside.kinds (get_or items i none).column kind there is_kind IntKind
    ∙ ap₂ (λ (kinds : List Kind) (c : KeyCol). get_or kinds c.column IntKind) (ap (λ (s : KeySpecValue). s.kinds) is_spec) its in
    let here : i < length spec.columns = rw own at within in
    subst (λ (columns : List KeyCol). ColumnsLeft cells read columns (kind ∷ drop (i + 1) (key_kinds spec)) bytes at)
    (drop_more spec.columns i none here ∙ ap (λ (c : KeyCol). c ∷ drop (i + 1) spec.columns) (sym its))
    (subst (λ (kinds : List Kind). ColumnsLeft cells read (drop i spec.columns) kinds bytes at)
    (kinds-more spec.kinds spec.columns i none here ∙ ap (λ (kind : Kind). kind ∷ drop (i + 1) (key_kinds spec)) (sym same)) was)

-- what reading a cell tells, for the bytes as the code cuts them
from_there : (descending : Bool) (kind : Kind) (cell : Cell) (rest bytes : List ℕ) (at : ℕ) → BeginsWithColumnKey descending kind cell rest (drop at bytes)
    → BeginsWithColumnKey descending kind cell rest (take (length bytes - at) (drop at bytes))
from_there descending kind cell rest bytes at begins = subst (BeginsWithColumnKey descending kind cell rest) (sym (take_rest bytes at)) begins

-- the specification as its type keeps it
held : (spec inside : KeySpecValue) → inside ≡ spec → are_key_columns inside.kinds inside.columns ≡ true → are_key_columns spec.kinds spec.columns ≡ true
held spec inside is_spec was = subst (λ (s : KeySpecValue). are_key_columns s.kinds s.columns ≡ true) is_spec was

pub read_column-requires : goal.read_column-requires
read_column-requires c =
    let own = columns-of_key c.args.self.now c.args.key.now (held c.args.self.now _ c.self.view_is c.self.invariant) c.requires in
    let was = next_left c.args.self.now _ _ _ _ _ _ _ _ c.self.view_is c.self.invariant c.deref-column-items.ensures.value c.loop-column-test.true
    c.index-kind.ensures (c.loop-column.invariant own.0 own.1) in
    let begun = columns_begin _ _ _ _ _ _ _ _ was in
    (begun.0, begun.1, from_there _ _ _ _ c.bytes-bytes.result.now c.loop-column.at begun.2)

pub overflow_add-at : goal.overflow_add-at
overflow_add-at c =
    let own = columns-of_key c.args.self.now c.args.key.now (held c.args.self.now _ c.self.view_is c.self.invariant) c.requires in
    let was = next_left c.args.self.now _ _ _ _ _ _ _ _ c.self.view_is c.self.invariant c.deref-column-items.ensures.value c.loop-column-test.true
    c.index-kind.ensures (c.loop-column.invariant own.0 own.1) in
    let more = columns_more _ _ _ _ _ _ _ _ was c.in_ok-cell.cell c.in_ok-cell.len
    (λ cell rest begins. (
      c.in_ok-cell.ensures.cell cell rest (from_there _ _ _ _ c.bytes-bytes.result.now c.loop-column.at begins),
      c.in_ok-cell.ensures.len cell rest (from_there _ _ _ _ c.bytes-bytes.result.now c.loop-column.at begins),
    )) in
    omega (arith, more.within, c.bytes-bytes.ensures.short, ap length c.bytes-bytes.ensures.bytes)

pub loop-column-preserved : goal.loop-column-preserved
loop-column-preserved c columns has =
    let was = next_left c.args.self.now _ _ _ _ _ _ _ _ c.self.view_is c.self.invariant c.deref-column-items.ensures.value c.loop-column-test.true
    c.index-kind.ensures (c.loop-column.invariant columns has) in
    rw c.in_ok-push.ensures.items
    (columns_more _ _ _ _ _ _ _ _ was c.in_ok-cell.cell c.in_ok-cell.len
    (λ cell rest begins. (
      c.in_ok-cell.ensures.cell cell rest (from_there _ _ _ _ c.bytes-bytes.result.now c.loop-column.at begins),
      c.in_ok-cell.ensures.len cell rest (from_there _ _ _ _ c.bytes-bytes.result.now c.loop-column.at begins),
    )))

pub slice_bounds-read_column-count : goal.slice_bounds-read_column-count
slice_bounds-read_column-count c =
    let own = columns-of_key c.args.self.now c.args.key.now (held c.args.self.now _ c.self.view_is c.self.invariant) c.requires in
    let left = c.loop-column.invariant own.0 own.1 in
    left.within

pub slice_bounds-read_column-start : goal.slice_bounds-read_column-start
slice_bounds-read_column-start c =
    let own = columns-of_key c.args.self.now c.args.key.now (held c.args.self.now _ c.self.view_is c.self.invariant) c.requires in
    let left = c.loop-column.invariant own.0 own.1 in
    left.within

-- whichever columns have the key, they are the ones that were read
read_all : (c : goal.After-loop-column) (columns : List Cell) → HasKey c.args.self.now c.args.key.now columns → columns ≡ c.loop-column.cells.items
read_all c columns has =
    let items : c.deref-column-items.result.now ≡ c.args.self.now.columns =
    c.deref-column-items.ensures.value ∙ ap (λ (s : KeySpecValue). s.columns) c.self.view_is in
    let count : length (key_kinds c.args.self.now) ≤ c.loop-column.column-index =
    omega (
      arith,
      c.loop-column-test.false,
      ap length items,
      length-map c.args.self.now.columns (λ named. slice_index_or c.args.self.now.kinds named.column IntKind),
    ) in
    columns_done _ _ _ _ _ _ (drop_all c.loop-column.column-index (key_kinds c.args.self.now) count) (c.loop-column.invariant columns has)

pub returns-clause-columns : goal.returns-clause-columns
returns-clause-columns c =
    let own = columns-of_key c.args.self.now c.args.key.now (held c.args.self.now _ c.self.view_is c.self.invariant) c.requires in
    subst (HasKey c.args.self.now c.args.key.now) (read_all c own.0 own.1) own.1

pub returns-clause-of_rows : goal.returns-clause-of_rows
returns-clause-of_rows c row is_row same =
    let own = has-key c.args.self.now row (held c.args.self.now _ c.self.view_is c.self.invariant) is_row in
    read_all c _ (subst (λ (bytes : List ℕ). HasKey c.args.self.now bytes (key_columns c.args.self.now row)) same own)
