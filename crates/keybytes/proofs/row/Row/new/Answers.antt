use Rattle.std.proofs.Common.{subst, arith, ◌∙◌}
use Rattle.std.proofs.lemmas.List.Elements.{All-more}
use Rattle.std.proofs.lemmas.List.{take_all}
use Rattle.std.proofs.lemmas.Bool.Decides.{nat_tests}
use Rattle.std.specs.List.{All}
use Rattle.keybytes.specs.Cells.{IsCell}
use Rattle.keybytes.specs.Rows.{IsRow}
use Rattle.keybytes.proofs.RowFacts.{row_refusal-IsRow}
use Rattle.keybytes.proofs.row.Row.new.Goals as goal
use Rattle.keybytes.proofs.row.Row.new.Goals.{After-loop-cell}

pub loop-cell-preserved : goal.loop-cell-preserved
loop-cell-preserved c =
    All-more IsCell _ _ c.cell-item.result c.loop-cell-test.true c.loop-cell.invariant
    (subst IsCell c.cell-item.is c.if-not-is_short.ensures.cell)

made : (c : goal.After-loop-cell) → IsRow c.args.cells.items
made c =
    let all = take_all c.loop-cell.cell-index c.deref-cell-items.result.now c.loop-cell-test.false in
    record {
      some = grind (arith, nat_tests);
      few = omega arith;
      each = subst (All IsCell) (all ∙ c.deref-cell-items.ensures.value) c.loop-cell.invariant;
    }

pub invariant_of-result : goal.invariant_of-result
invariant_of-result c = made c

pub returns-clause-accepted : goal.returns-clause-accepted
returns-clause-accepted c = row_refusal-IsRow _ (made c)
