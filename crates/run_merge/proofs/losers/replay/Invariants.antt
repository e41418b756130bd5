use Rattle.std.proofs.Common.{◌+◌, ◌*◌, ◌^◌, ◌<◌, ◌≤◌, length}
use Rattle.run_merge.specs.Leading.{NoneDone}
use Rattle.run_merge.specs.Losers.{IsReplay}
use Rattle.run_merge.proofs.losers.replay.Given as goal

abbrev pub invariant-loop-node : goal.invariant-loop-node
invariant-loop-node l = record {
  some : 0 < l.node;
  inside : l.node < 2 * length l.heads;
  way : l.node * 2 ^ l.compares ≤ length l.heads + l.leaf;
  counted : NoneDone l.heads → length l.heads + l.leaf < (l.node + 1) * 2 ^ l.compares;
  winner : l.winner < length l.heads;
  replay : IsReplay l.heads l.nodes l.node l.winner;
}

abbrev pub decreases-loop-node : goal.decreases-loop-node
decreases-loop-node l = l.node
