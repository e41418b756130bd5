use Rattle.std.proofs.lemmas.List.Elements.{All-cons}
use Rattle.ready_indexes.specs.Following.{Follows}
use Rattle.ready_indexes.proofs.Each.{first_of, rest_of}
use Rattle.ready_indexes.proofs.ready_indexes.+commit_each.Goals as goal

pub returns-clause-follow : goal.returns-clause-follow
returns-clause-follow t c = λ kinds old new goes all.
    let is = c.in-Some.ensures.cases.0 in
    let it = c.in-Some.index.now in
    let rest = c.in-Some.rest.now in
    All-cons (Follows kinds new) _ _ (c.commit.ensures.follows kinds old new goes (first_of (Follows kinds old) it rest c.args.indexes.now is all))
    (c.commit_each.ensures.follow kinds old new goes (rest_of (Follows kinds old) it rest c.args.indexes.now is all))
