use Rattle.std.proofs.Common.{◌≡◌, ℕ, List, [], drop, subst, arith}
use Rattle.std.proofs.lemmas.List.{drop_all}
use Rattle.std.proofs.lemmas.Result.{err_from_is_err_and}
use Rattle.std.proofs.lemmas.Bool.Decides.{nat_tests}
use Rattle.std.proofs.lemmas.Grind.{common_steps}
use Rattle.keybytes.specs.Rows.{Spells, RefusesRow}
use Rattle.keybytes.specs.declared.kind.Kind.{Kind}
use Rattle.keybytes.proofs.Reading.{HasRead, next_kind, has_read_more, refuses_row, read_whole, IsRow-from_Spells}
use Rattle.keybytes.proofs.row.Row.read_cells.Goals as goal

pub returns-in_err-cell-clause-refused : goal.returns-in_err-cell-clause-refused
returns-in_err-cell-clause-refused c =
    let p = err_from_is_err_and c.from_residual-in_err-cell.result c.from_residual-in_err-cell.ensures.1 in
    let kinds = c.kinds-kinds.result.now in
    let i = c.loop-kind.kind-index in
    let had = subst (λ (left : List Kind). HasRead kinds c.args.bytes.now c.loop-kind.cells.items left c.loop-kind.rest.now)
    (next_kind kinds i c.loop-kind-test.true) c.loop-kind.invariant in
    rw (p.1, p.2) (λ other.
    let refused = refuses_row kinds c.args.bytes.now _ _ _ _ _ had (c.in_err-cell.ensures.refused other) in
    subst (λ (ks : List Kind). RefusesRow ks c.args.bytes.now c.in_err-cell.field-0.0) c.kinds-kinds.ensures.kinds refused)

pub loop-kind-preserved : goal.loop-kind-preserved
loop-kind-preserved c =
    let kinds = c.kinds-kinds.result.now in
    let i = c.loop-kind.kind-index in
    let had = subst (λ (left : List Kind). HasRead kinds c.args.bytes.now c.loop-kind.cells.items left c.loop-kind.rest.now)
    (next_kind kinds i c.loop-kind-test.true) c.loop-kind.invariant in
    rw c.in_ok-push.ensures.items (has_read_more kinds c.args.bytes.now _ _ _ _ _ _ had c.in_ok-cell.ensures.ok)

whole : (c : goal.Else-not-is_empty) → Spells c.args.schema.now c.args.bytes.now c.loop-kind.cells.items
whole c =
    let kinds = c.kinds-kinds.result.now in
    let read : drop c.loop-kind.kind-index kinds ≡ [] = drop_all c.loop-kind.kind-index kinds c.loop-kind-test.false in
    let none : c.loop-kind.rest.now ≡ [] = grind (arith, common_steps, nat_tests) in
    let had = subst (λ (left : List Kind). HasRead kinds c.args.bytes.now c.loop-kind.cells.items left c.loop-kind.rest.now)
    read c.loop-kind.invariant in
    let ended = subst (λ (rest : List ℕ). HasRead kinds c.args.bytes.now c.loop-kind.cells.items [] rest) none had in
    subst (λ (ks : List Kind). Spells ks c.args.bytes.now c.loop-kind.cells.items) c.kinds-kinds.ensures.kinds
    (read_whole kinds c.args.bytes.now c.loop-kind.cells.items ended)

pub invariant_of-result : goal.invariant_of-result
invariant_of-result c = IsRow-from_Spells c.args.schema.now c.args.bytes.now _ c.kinds-kinds.ensures.columns (whole c)

pub returns-clause-ok : goal.returns-clause-ok
returns-clause-ok c = whole c
