use Rattle.std.proofs.Common.{◌≡◌, ℕ, List, [], ◌∷◌, ◌++◌, drop, subst, arith}
use Rattle.std.proofs.lemmas.List.{drop_all}
use Rattle.std.proofs.lemmas.Result.{err_from_is_err_and}
use Rattle.std.proofs.lemmas.Bool.Decides.{nat_tests}
use Rattle.std.proofs.lemmas.Grind.{common_steps}
use Rattle.keybytes.specs.declared.kind.Kind.{Kind}
use Rattle.keybytes.proofs.Reading.{HasRead, next_kind, has_read_more, refuses_row, read_whole}
use Rattle.keybytes.proofs.row.check_spelling.Goals as goal

pub returns-in_err-rest-clause-refused : goal.returns-in_err-rest-clause-refused
returns-in_err-rest-clause-refused c =
    let p = err_from_is_err_and c.from_residual.result c.from_residual.ensures.1 in
    let kinds = c.args.kinds.now in
    let i = c.loop-kind.kind-index in
    let had = subst (λ (left : List Kind). HasRead kinds c.args.bytes.now c.loop-kind.invariant.0 left c.loop-kind.rest.now)
    (next_kind kinds i c.loop-kind-test.true) c.loop-kind.invariant.1 in
    rw (p.1, p.2) (refuses_row kinds c.args.bytes.now _ _ _ _ _ had c.in_err-rest.ensures.refused)

pub loop-kind-preserved : goal.loop-kind-preserved
loop-kind-preserved c =
    let kinds = c.args.kinds.now in
    let i = c.loop-kind.kind-index in
    let had = subst (λ (left : List Kind). HasRead kinds c.args.bytes.now c.loop-kind.invariant.0 left c.loop-kind.rest.now)
    (next_kind kinds i c.loop-kind-test.true) c.loop-kind.invariant.1 in
    (c.loop-kind.invariant.0 ++ c.in_ok-rest.ensures.ok.0 ∷ [], has_read_more kinds c.args.bytes.now _ _ _ _ _ _ had c.in_ok-rest.ensures.ok.1)

pub returns-in-empty-clause-ok : goal.returns-in-empty-clause-ok
returns-in-empty-clause-ok c =
    let kinds = c.args.kinds.now in
    let read : drop c.loop-kind.kind-index kinds ≡ [] = drop_all c.loop-kind.kind-index kinds c.loop-kind-test.false in
    let none : c.loop-kind.rest.now ≡ [] = grind (arith, common_steps, nat_tests) in
    let had = subst (λ (left : List Kind). HasRead kinds c.args.bytes.now c.loop-kind.invariant.0 left c.loop-kind.rest.now) read c.loop-kind.invariant.1 in
    let ended = subst (λ (rest : List ℕ). HasRead kinds c.args.bytes.now c.loop-kind.invariant.0 [] rest) none had in
    (c.loop-kind.invariant.0, read_whole kinds c.args.bytes.now c.loop-kind.invariant.0 ended)
