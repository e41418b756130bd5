use Rattle.std.proofs.Common.{subst, arith}
use Rattle.table_scan.specs.TableBuilds.{BuildFollows}
use Rattle.live_table.proofs.live.Live.entries_left.Goals as goal

pub returns-clause-few : goal.returns-clause-few
returns-clause-few g c =
    let follows = subst (BuildFollows c.args.self.now.state.heap.schema c.args.self.now.state.heap.log) c.in-Some.ensures.build c.in-Some.ensures.follows in
    omega (arith, c.loop-index.invariant.few, c.loop-index.auto.index-end, c.indexes-index-end.ensures, follows.few_indexes)
