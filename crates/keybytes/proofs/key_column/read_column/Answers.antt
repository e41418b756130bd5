use Rattle.std.proofs.Common.{◌≡◌, ◌∙◌, ℕ, Bool, false, true, List, map, length, subst, sym}
use Rattle.std.proofs.lemmas.Result.{IfOk-weaker}
use Rattle.keybytes.specs.Keys.{cell_key, complement, BeginsWithCellKey, BeginsWithColumnKey}
use Rattle.keybytes.specs.declared.cell.Cell.{Cell}
use Rattle.keybytes.specs.declared.kind.Kind.{Kind}
use Rattle.keybytes.proofs.KeyReads.{plain_front, turned_front}
use Rattle.keybytes.proofs.key_column.read_column.Goals as goal

-- what stands in front of a column that doesn't descend
begins_plain : (descending : Bool) (kind : Kind) (cell : Cell) (rest bytes : List ℕ) → descending ≡ false
    → BeginsWithColumnKey descending kind cell rest bytes → BeginsWithCellKey kind cell rest bytes
begins_plain descending kind cell rest bytes rises begins =
    plain_front kind cell rest bytes (subst (λ (d : Bool). BeginsWithColumnKey d kind cell rest bytes) rises begins)

-- what stands in front of the copy whose bytes are complemented
begins_turned : (descending : Bool) (kind : Kind) (cell : Cell) (rest bytes turned : List ℕ) → descending ≡ true → turned ≡ map complement bytes
    → BeginsWithColumnKey descending kind cell rest bytes → BeginsWithCellKey kind cell (map complement rest) turned
begins_turned descending kind cell rest bytes turned descends is begins =
    subst (BeginsWithCellKey kind cell (map complement rest)) (sym is)
    (turned_front kind cell rest bytes (subst (λ (d : Bool). BeginsWithColumnKey d kind cell rest bytes) descends begins))

pub read_cell-requires : goal.read_cell-requires
read_cell-requires c = (
  c.requires.0,
  map complement c.requires.1,
  begins_turned c.args.descending c.args.kind c.requires.0 c.requires.1 c.args.bytes.now _ c.if-descending.true
      (c.deref.ensures.value ∙ c.in_ok-turned.ensures.ok) c.requires.2,
)

pub read_cell-requires-2 : goal.read_cell-requires-2
read_cell-requires-2 c = (
  c.requires.0,
  c.requires.1,
  begins_plain c.args.descending c.args.kind c.requires.0 c.requires.1 c.args.bytes.now c.if-descending.false c.requires.2,
)

pub returns-then-descending-clause-cell : goal.returns-then-descending-clause-cell
returns-then-descending-clause-cell c =
    IfOk-weaker c.read_cell.result _
    (λ read. (cell : Cell) (rest : List ℕ) → BeginsWithColumnKey c.args.descending c.args.kind cell rest c.args.bytes.now → read.0 ≡ cell)
    (λ read tells cell rest begins. tells cell (map complement rest)
    (begins_turned c.args.descending c.args.kind cell rest c.args.bytes.now _ c.if-descending.true (c.deref.ensures.value ∙ c.in_ok-turned.ensures.ok) begins))
    c.read_cell.ensures.cell

pub returns-then-descending-clause-len : goal.returns-then-descending-clause-len
returns-then-descending-clause-len c =
    IfOk-weaker c.read_cell.result _
    (λ read. (cell : Cell) (rest : List ℕ) → BeginsWithColumnKey c.args.descending c.args.kind cell rest c.args.bytes.now → read.1 ≡ length (cell_key cell))
    (λ read tells cell rest begins. tells cell (map complement rest)
    (begins_turned c.args.descending c.args.kind cell rest c.args.bytes.now _ c.if-descending.true (c.deref.ensures.value ∙ c.in_ok-turned.ensures.ok) begins))
    c.read_cell.ensures.len
