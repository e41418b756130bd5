use Rattle.std.proofs.Common.{length, ap, arith}
use Rattle.std.proofs.lemmas.List.Elements.{All-cons}
use Rattle.ready_indexes.specs.Following.{FitsColumns, Follows}
use Rattle.ready_indexes.proofs.Each.{first_of, rest_of, still_follows}
use Rattle.ready_indexes.proofs.ready_indexes.+prepare_each.Goals as goal

pub prepare_each-requires : goal.prepare_each-requires
prepare_each-requires t c =
    let fewer = ap length c.in-Some.ensures.cases.0 in (
      omega (arith, fewer),
      rest_of (λ it. FitsColumns c.args.ready.now it.index.spec) c.in-Some.index.now c.in-Some.rest.now c.args.indexes.now c.in-Some.ensures.cases.0 c.requires.fits,
    )

pub returns-in_err-prepare-clause-follow : goal.returns-in_err-prepare-clause-follow
returns-in_err-prepare-clause-follow t c = λ kinds log all.
    let is = c.in-Some.ensures.cases.0 in
    let it = c.in-Some.index.now in
    let rest = c.in-Some.rest.now in
    All-cons (Follows kinds log) _ _
    (still_follows kinds log it _ c.prepare.ensures.index (c.prepare.ensures.kept log) (first_of (Follows kinds log) it rest c.args.indexes.now is all))
    (rest_of (Follows kinds log) it rest c.args.indexes.now is all)

pub returns-clause-follow : goal.returns-clause-follow
returns-clause-follow t c = λ kinds log all.
    let is = c.in-Some.ensures.cases.0 in
    let it = c.in-Some.index.now in
    let rest = c.in-Some.rest.now in
    All-cons (Follows kinds log) _ _
    (still_follows kinds log it _ c.prepare.ensures.index (c.prepare.ensures.kept log) (first_of (Follows kinds log) it rest c.args.indexes.now is all))
    (c.prepare_each.ensures.follow kinds log (rest_of (Follows kinds log) it rest c.args.indexes.now is all))
