use Rattle.std.proofs.Common.{length, ap, arith}
use Rattle.ready_indexes.specs.Following.{Follows}
use Rattle.ready_indexes.proofs.Each.{first_of, rest_of}
use Rattle.ready_indexes.proofs.ready_indexes.+check_from.Goals as goal

pub check-requires-clause-follows : goal.check-requires-clause-follows
check-requires-clause-follows t c =
    let heap = c.args.heap.now.state in
    first_of (Follows heap.schema heap.log) c.in-Some.index.now c.in-Some.rest.now c.args.indexes.now c.in-Some.ensures.cases.0 c.requires.follow

pub check_from-requires : goal.check_from-requires
check_from-requires t c =
    let heap = c.args.heap.now.state in
    let is = c.in-Some.ensures.cases.0 in
    let fewer = ap length is in (
      omega (arith, fewer),
      (
        omega (arith, fewer, c.requires.few),
        (rest_of (Follows heap.schema heap.log) c.in-Some.index.now c.in-Some.rest.now c.args.indexes.now is c.requires.follow, c.requires.fits),
      ),
    )
