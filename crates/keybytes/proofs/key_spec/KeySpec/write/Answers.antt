use Rattle.std.proofs.Common.{◌≡◌, ℕ, ◌<◌, ◌≤◌, true, false, List, length, take, take_all, get_or, ap, ap₂, ◌∙◌, subst, refl, arith}
use Rattle.std.specs.List.{flat_map}
use Rattle.std.proofs.lemmas.Bool.{false≢true}
use Rattle.keybytes.specs.Cells.{fits}
use Rattle.keybytes.specs.Keys.{KeySpecValue, are_key_columns, key_of, IsRowOf}
use Rattle.keybytes.specs.Rows.{IsRow}
use Rattle.keybytes.specs.declared.cell.Cell.{Cell}
use Rattle.keybytes.specs.declared.key_col.KeyCol.{KeyCol}
use Rattle.keybytes.proofs.KeyLaws.{key_of-laws}
use Rattle.keybytes.proofs.KeyWrites.{column-within, length-key_of, part, key-parts, column-more, column-room}
use Rattle.keybytes.proofs.Spelling.{length-fits}
use Rattle.keybytes.proofs.key_spec.KeySpec.write.Goals as goal

-- what stands for a column behind the last
abbrev none : KeyCol
none = record { column = 0; descending = false }

-- the column at a place of the specification is one of the row's
there : (spec inside : KeySpecValue) (row cells : List Cell) (items : List KeyCol) (i : ℕ) (d : KeyCol) → inside ≡ spec
    → are_key_columns inside.kinds inside.columns ≡ true → items ≡ inside.columns → cells ≡ row → fits spec.kinds row ≡ true → i < length items
    → (get_or items i d).column < length cells
there spec inside row cells items i d is_spec held is_items is_cells fit within =
    let of_kinds : (get_or items i d).column < length inside.kinds =
    rw is_items (column-within inside.kinds inside.columns i d held (rw is_items at within)) in
    omega (arith, of_kinds, ap (λ (s : KeySpecValue). length s.kinds) is_spec, length-fits spec.kinds row fit, ap length is_cells)

-- a key is at most as long as any may be
size : (spec inside : KeySpecValue) (row : List Cell) → inside ≡ spec → are_key_columns inside.kinds inside.columns ≡ true → IsRow row
    → length (key_of spec row) ≤ 812
size spec inside row is_spec held is_row =
    length-key_of spec row (subst (λ (s : KeySpecValue). are_key_columns s.kinds s.columns ≡ true) is_spec held) is_row.each

-- the whole key, as the loop writes it
whole : (spec inside : KeySpecValue) (row cells : List Cell) (items : List KeyCol) → inside ≡ spec → items ≡ inside.columns → cells ≡ row
    → flat_map (part cells) items ≡ key_of spec row
whole spec inside row cells items is_spec is_items is_cells =
    ap₂ (λ (cells : List Cell) (items : List KeyCol). flat_map (part cells) items) is_cells (is_items ∙ ap (λ (s : KeySpecValue). s.columns) is_spec)
    ∙ key-parts row spec.columns

-- the key that the loop leaves
done : (spec inside : KeySpecValue) (row cells : List Cell) (items : List KeyCol) (i : ℕ) (key : List ℕ) → inside ≡ spec → items ≡ inside.columns
    → cells ≡ row → key ≡ flat_map (part cells) (take i items) → length items ≤ i → key ≡ key_of spec row
done spec inside row cells items i key is_spec is_items is_cells written ended =
    written ∙ ap (flat_map (part cells)) (take_all i items ended) ∙ whole spec inside row cells items is_spec is_items is_cells

pub offset_bounds-cells-column : goal.offset_bounds-cells-column
offset_bounds-cells-column g c =
    let within = there c.args.self.now _ c.args.row.now _ _ _ none c.self.view_is c.self.invariant c.deref-column-items.ensures.value c.cells-cells.ensures.cells
    c.requires.fits c.loop-column-test.true in
    omega (arith, within, ap length c.cells-cells.ensures.cells, c.cells-cells.ensures.row.few)

pub bounds-cells-column : goal.bounds-cells-column
bounds-cells-column g c =
    there c.args.self.now _ c.args.row.now _ _ _ none c.self.view_is c.self.invariant c.deref-column-items.ensures.value c.cells-cells.ensures.cells
    c.requires.fits c.loop-column-test.true

pub returns-in_err-add_column-clause-room : goal.returns-in_err-add_column-clause-room
returns-in_err-add_column-clause-room g c enough =
    let within = there c.args.self.now _ c.args.row.now _ _ _ none c.self.view_is c.self.invariant c.deref-column-items.ensures.value c.cells-cells.ensures.cells
    c.requires.fits c.loop-column-test.true in
    let need = column-room _ _ _ none _ _ c.loop-column.invariant.written c.loop-column-test.true within c.index-cells-column.is in
    let all = whole c.args.self.now _ c.args.row.now _ _ c.self.view_is c.deref-column-items.ensures.value c.cells-cells.ensures.cells in
    absurd (false≢true (c.in_err-add_column.ensures.room (omega (arith, need, ap length all, enough, c.loop-column.invariant.room))))

pub returns-in_err-add_column-clause-size : goal.returns-in_err-add_column-clause-size
returns-in_err-add_column-clause-size g c = size c.args.self.now _ c.args.row.now c.self.view_is c.self.invariant c.cells-cells.ensures.row

pub loop-column-preserved : goal.loop-column-preserved
loop-column-preserved g c =
    let within = there c.args.self.now _ c.args.row.now _ _ _ none c.self.view_is c.self.invariant c.deref-column-items.ensures.value c.cells-cells.ensures.cells
    c.requires.fits c.loop-column-test.true in
    record {
      written = c.in_ok-add_column.ensures.ok ∙ column-more _ _ _ none _ _ c.loop-column.invariant.written c.loop-column-test.true within c.index-cells-column.is;
      room = omega (arith, c.loop-column.invariant.room, c.in_ok-add_column.ensures.capacity);
    }

pub returns-clause-value : goal.returns-clause-value
returns-clause-value g c =
    done c.args.self.now _ c.args.row.now _ _ _ _ c.self.view_is c.deref-column-items.ensures.value c.cells-cells.ensures.cells
    c.loop-column.invariant.written c.loop-column-test.false

pub returns-clause-size : goal.returns-clause-size
returns-clause-size g c = size c.args.self.now _ c.args.row.now c.self.view_is c.self.invariant c.cells-cells.ensures.row

-- what the key has by the laws, and that its columns are the row's
held : (spec inside : KeySpecValue) → inside ≡ spec → are_key_columns inside.kinds inside.columns ≡ true → are_key_columns spec.kinds spec.columns ≡ true
held spec inside is_spec there = subst (λ (s : KeySpecValue). are_key_columns s.kinds s.columns ≡ true) is_spec there

pub returns-clause-laws : goal.returns-clause-laws
returns-clause-laws g c =
    key_of-laws c.args.self.now c.args.row.now (held c.args.self.now _ c.self.view_is c.self.invariant)
    (record { is_row = c.cells-cells.ensures.row; fits_kinds = c.requires.fits })

pub returns-clause-is_key : goal.returns-clause-is_key
returns-clause-is_key g c =
    let is_row : IsRowOf c.args.self.now c.args.row.now = record { is_row = c.cells-cells.ensures.row; fits_kinds = c.requires.fits } in
    (c.args.row.now, (is_row, refl))
