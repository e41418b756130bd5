use Rattle.std.proofs.Common.{◌≡◌}
use Rattle.heap_table.specs.TablePairs.{pairs_from}
use Rattle.build_events.specs.CoreState.{after_visits}
use Rattle.live_table.proofs.rest.at_rest.Given as goal

abbrev pub invariant-loop-page : goal.invariant-loop-page
invariant-loop-page l = record {
  made : l.pairs.items ≡ pairs_from l.spec l.fn.heap.state.log 0 l.page;
  visits : l.heap.state ≡ after_visits l.fn.heap.state l.page;
}
