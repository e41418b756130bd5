use Rattle.std.proofs.Common.{◌≡◌, ◌≢◌, [], ◌∷◌, ◌++◌, length, refl, arith}
use Rattle.std.proofs.lemmas.Bool.Decides.{nat_tests}
use Rattle.sfbuild_c.specs.NamedIndexes.{named_spec}
use Rattle.sfbuild_c.proofs.IndexLists.{breaks_off, is_empty, is_not_empty, read_all, read_more, read_none, shorter}
use Rattle.sfbuild_c.proofs.index_bytes.check_indexes.Goals as goal

pub loop-rest-init : goal.loop-rest-init
loop-rest-init c = ([], read_none c.args.schema.now c.args.bytes.now)

pub returns-in_default-clause-refused : goal.returns-in_default-clause-refused
returns-in_default-clause-refused c =
    let some : length c.loop-rest.rest.now ≢ 0 = grind (arith, nat_tests, c.loop-rest-test.ensures) in (
      refl,
      breaks_off c.args.schema.now c.args.bytes.now c.loop-rest.rest.now c.loop-rest.invariant.0 c.loop-rest.invariant.1
          (is_not_empty c.loop-rest.rest.now some) c.in_default.ensures.found,
    )

pub loop-rest-smaller : goal.loop-rest-smaller
loop-rest-smaller c = shorter c.args.schema.now c.loop-rest.rest.now c.in-Some.behind.now _ c.in-Some.ensures.found

pub loop-rest-preserved : goal.loop-rest-preserved
loop-rest-preserved c =
    let spec = named_spec c.args.schema.now c.in-Some.field-0-0 in (
      c.loop-rest.invariant.0 ++ spec ∷ [],
      read_more c.args.schema.now c.args.bytes.now c.loop-rest.rest.now c.in-Some.behind.now c.loop-rest.invariant.0 spec c.loop-rest.invariant.1
          c.in-Some.ensures.found,
    )

pub returns-clause-accepted : goal.returns-clause-accepted
returns-clause-accepted c =
    let none : length c.loop-rest.rest.now ≡ 0 = grind (arith, nat_tests, c.loop-rest-test.ensures) in (
      c.loop-rest.invariant.0,
      read_all c.args.schema.now c.args.bytes.now c.loop-rest.rest.now c.loop-rest.invariant.0 c.loop-rest.invariant.1
          (is_empty c.loop-rest.rest.now none),
    )
