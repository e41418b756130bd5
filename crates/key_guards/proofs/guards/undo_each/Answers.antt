-- At the end each is undone.
use Rattle.std.proofs.Common.{arith}
use Rattle.key_guards.proofs.guards.undo_each.Goals as goal

pub returns : goal.returns
returns c = record {
  count = c.loop-i.invariant.0;
  each = λ k d l. c.loop-i.invariant.1 k d (omega (arith, l, c.len-i-end.ensures, c.args.txns.now.ok, c.loop-i-test.false));
}
