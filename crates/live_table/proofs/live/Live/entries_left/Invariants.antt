use Rattle.std.proofs.Common.{◌≡◌, ◌≤◌, ◌+◌, ◌*◌, ◌^◌}
use Rattle.live_lemmas.proofs.Settling.{waiting_before}
use Rattle.live_table.proofs.live.Live.entries_left.Given as goal

abbrev pub invariant-loop-index : goal.invariant-loop-index
invariant-loop-index g l = record {
  sum : l.sum ≡ waiting_before l.index l.self.state.build l.self.state.heap.log;
  few : l.sum + l.index ≤ l.index * 2 ^ 60;
}
