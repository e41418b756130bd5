use Rattle.std.proofs.Common.{◌<◌, ◌≤◌, [], ◌∷◌, ◌++◌, length, refl, ◌∙◌, arith, take_all}
use Rattle.std.proofs.lemmas.Bool.Decides.{nat_tests}
use Rattle.sfbuild_c.proofs.KindLists.{kind_more, no_table, spells_kinds, stands, stands_not}
use Rattle.sfbuild_c.proofs.kind_bytes.check_kinds.Goals as goal

pub loop-byte-init : goal.loop-byte-init
loop-byte-init c = ([], refl)

pub returns-then-is_none-clause-refused : goal.returns-then-is_none-clause-refused
returns-then-is_none-clause-refused c =
    (refl, no_table c.args.bytes.now c.loop-byte.byte-index c.loop-byte-test.true (stands_not _ _ c.kind_of.ensures c.if-is_none.ensures))

pub loop-byte-preserved : goal.loop-byte-preserved
loop-byte-preserved c =
    let kinds = c.loop-byte.invariant.0 in
    let here = stands _ _ c.kind_of.ensures c.if-is_none.ensures in (
      kinds ++ here.0 ∷ [],
      kind_more kinds c.args.bytes.now c.loop-byte.byte-index here.0 c.loop-byte-test.true c.loop-byte.invariant.1 here.1,
    )

pub returns-clause-accepted : goal.returns-clause-accepted
returns-clause-accepted c =
    let bytes = c.args.bytes.now in
    let kinds = c.loop-byte.invariant.0 in
    let end : length bytes ≤ c.loop-byte.byte-index = omega arith in
    let some : 0 < length bytes = grind (arith, nat_tests, c.is_empty.ensures, c.if-is_empty.false) in
    let few : length bytes ≤ 12 = omega arith in
    (kinds, spells_kinds kinds bytes (c.loop-byte.invariant.1 ∙ take_all c.loop-byte.byte-index bytes end) some few)
