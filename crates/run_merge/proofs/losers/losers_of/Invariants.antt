use Rattle.std.proofs.Common.{◌≡◌, ℕ, ◌<◌, length, get_or}
use Rattle.run_merge.specs.Losers.{IsLoser}
use Rattle.run_merge.proofs.losers.losers_of.Given as goal

abbrev pub invariant-loop-node : goal.invariant-loop-node
invariant-loop-node l = record {
  long : length l.nodes.items ≡ l.node;
  first : get_or l.nodes.items 0 0 ≡ get_or l.wins 1 0;
  losers : (n : ℕ) → 0 < n → n < l.node → IsLoser l.wins (get_or l.nodes.items n 0) n;
}
