use Rattle.std.proofs.Common.{◌≡◌, ◌≢◌, inl, inr, length, arith}
use Rattle.std.proofs.lemmas.Result.{err_from_is_err_and}
use Rattle.std.proofs.lemmas.Bool.Decides.{nat_tests}
use Rattle.sfbuild_c.proofs.IndexLists.{breaks_off, is_empty, is_not_empty, read_all, read_more, read_none, shorter}
use Rattle.sfbuild_c.proofs.index_bytes.make_indexes.Goals as goal

pub loop-rest-init : goal.loop-rest-init
loop-rest-init c = rw c.new-specs.ensures.items (read_none c.args.schema.now c.args.bytes.now)

pub returns-in_err-rest-clause-refused : goal.returns-in_err-rest-clause-refused
returns-in_err-rest-clause-refused c =
    let some : length c.loop-rest.rest.now ≢ 0 = grind (arith, nat_tests, c.loop-rest-test.ensures) in
    let p = err_from_is_err_and c.from_residual.result c.from_residual.ensures.1 in
    rw (p.1, p.2)
    (elim c.in_err-rest.ensures.refused [
      | inl bad ↦ inl (
        bad.0,
        breaks_off c.args.schema.now c.args.bytes.now c.loop-rest.rest.now c.loop-rest.specs.items c.loop-rest.invariant
            (is_not_empty c.loop-rest.rest.now some) bad.1,
      )
      | inr memory ↦ inr memory
    ])

pub loop-rest-smaller : goal.loop-rest-smaller
loop-rest-smaller c =
    let added = c.in_ok-rest.ensures.added in
    shorter c.args.schema.now c.loop-rest.rest.now c.in_ok-rest.rest.now added.0 added.1.0

pub loop-rest-preserved : goal.loop-rest-preserved
loop-rest-preserved c =
    let added = c.in_ok-rest.ensures.added in
    rw added.1.1
    (read_more c.args.schema.now c.args.bytes.now c.loop-rest.rest.now c.in_ok-rest.rest.now c.loop-rest.specs.items added.0 c.loop-rest.invariant added.1.0)

pub returns-clause-ok : goal.returns-clause-ok
returns-clause-ok c =
    let none : length c.loop-rest.rest.now ≡ 0 = grind (arith, nat_tests, c.loop-rest-test.ensures) in
    read_all c.args.schema.now c.args.bytes.now c.loop-rest.rest.now c.loop-rest.specs.items c.loop-rest.invariant (is_empty c.loop-rest.rest.now none)
