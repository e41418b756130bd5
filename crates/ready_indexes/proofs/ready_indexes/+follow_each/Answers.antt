use Rattle.std.proofs.Common.{length, ap, arith}
use Rattle.ready_indexes.specs.Following.{Follows, IsPrepared}
use Rattle.ready_indexes.proofs.Each.{first_of, rest_of, first_lets_in, rest_lets_in}
use Rattle.ready_indexes.proofs.ready_indexes.+follow_each.Goals as goal

pub follow-requires-clause-prepared : goal.follow-requires-clause-prepared
follow-requires-clause-prepared t c =
    first_of (IsPrepared c.args.ready.now) c.in-Some.index.now c.in-Some.rest.now c.args.indexes.now c.in-Some.ensures.cases.0 c.requires.prepared

pub follow-requires-clause-follows : goal.follow-requires-clause-follows
follow-requires-clause-follows t c =
    let heap = c.args.heap.now.state in
    first_of (Follows heap.schema heap.log) c.in-Some.index.now c.in-Some.rest.now c.args.indexes.now c.in-Some.ensures.cases.0 c.requires.follow

pub follow-requires-clause-let_in : goal.follow-requires-clause-let_in
follow-requires-clause-let_in t c = λ none.
    first_lets_in c.args.heap.now.state.log c.args.ready.now c.in-Some.index.now c.in-Some.rest.now c.args.indexes.now c.in-Some.ensures.cases.0
    (c.requires.let_in none)

pub follow_each-requires : goal.follow_each-requires
follow_each-requires t c =
    let heap = c.args.heap.now.state in
    let ready = c.args.ready.now in
    let it = c.in-Some.index.now in
    let rest = c.in-Some.rest.now in
    let is = c.in-Some.ensures.cases.0 in
    let fewer = ap length is in (
      omega (arith, fewer),
      (
        c.requires.ready,
        (
          rest_of (IsPrepared ready) it rest c.args.indexes.now is c.requires.prepared,
          (
            rest_of (Follows heap.schema heap.log) it rest c.args.indexes.now is c.requires.follow,
            λ none. rest_lets_in heap.log ready it rest c.args.indexes.now is (c.requires.let_in none),
          ),
        ),
      ),
    )
