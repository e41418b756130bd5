use Rattle.std.proofs.Common.{◌≡◌, ◌<◌, ◌+◌, ◌&&◌, length, get_or, drop, sym, ◌∙◌, ap, arith, Bool, true}
use Rattle.std.proofs.lemmas.Bool.{false_from_ne_true}
use Rattle.keybytes.specs.Cells.{fits, fits_kind}
use Rattle.keybytes.specs.declared.kind.Kind.TheVariants.{Int}
use Rattle.keybytes.proofs.Spelling.{length-fits, fits-drop}
use Rattle.keybytes.proofs.row.cells_fit.Goals as goal

pub returns-then-kinds-cells : goal.returns-then-kinds-cells
returns-then-kinds-cells c = sym (false_from_ne_true _ (λ fit. c.if-kinds-cells.true (length-fits c.args.kinds.now c.args.cells.now fit)))

pub loop-i-preserved : goal.loop-i-preserved
loop-i-preserved c =
    let i = c.loop-i.i in
    let kinds = c.args.kinds.now in
    let cells = c.args.cells.now in
    let cell = c.index-cells-i.result in
    let in_cells : i < length cells = omega arith in
    let here : fits_kind (get_or kinds i Int) (get_or cells i cell) ≡ true =
    sym (c.if-not-fits.ensures ∙ ap (fits_kind (get_or kinds i Int)) c.index-cells-i.is) in
    c.loop-i.invariant
    ∙ (fits-drop kinds cells i Int cell c.loop-i-test.true in_cells
    ∙ ap (λ (b : Bool). b && fits (drop (i + 1) kinds) (drop (i + 1) cells)) here)
