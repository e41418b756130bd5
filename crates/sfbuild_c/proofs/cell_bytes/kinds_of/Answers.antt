use Rattle.std.proofs.Common.{◌≡◌, true, take, get_or, subst}
use Rattle.std.proofs.lemmas.List.{take_more}
use Rattle.keybytes.specs.Cells.{fits_kind}
use Rattle.keybytes.specs.declared.cell.Cell.{Cell}
use Rattle.sfbuild_c.proofs.CellKinds.{fits-more}
use Rattle.sfbuild_c.proofs.cell_bytes.kinds_of.Goals as goal

pub loop-cell-preserved : goal.loop-cell-preserved
loop-cell-preserved c =
    let i = c.loop-cell.cell-index in
    let cells = c.args.cells.now in
    let kind = c.kind_that_takes.result in
    let cell = get_or cells i c.cell-item.result in
    let here : fits_kind kind cell ≡ true = subst (λ (item : Cell). fits_kind kind item ≡ true) c.cell-item.is c.kind_that_takes.ensures in
    rw (c.in_ok-push.ensures.items, take_more cells i c.cell-item.result c.loop-cell-test.true)
    (fits-more c.loop-cell.kinds.items (take i cells) kind cell c.loop-cell.invariant here)
