use Rattle.std.proofs.Common.{take, drop, ap, sym, ◌∙◌, arith}
use Rattle.std.proofs.lemmas.List.{take_at, drop_at}
use Rattle.tree_nodes.proofs.Moves.{moved_one}
use Rattle.tree_nodes.proofs.room.move_tail.Goals as goal

pub loop-into-preserved : goal.loop-into-preserved
loop-into-preserved g c = record {
  joined = moved_one _ _ _ _ _ _ c.take_last.ensures.items c.push_reserved.ensures.items c.loop-into.invariant.joined;
  within = omega arith;
  lens = omega arith;
  from_room = c.take_last.ensures.capacity ∙ c.loop-into.invariant.from_room;
  into_room = c.push_reserved.ensures.capacity ∙ c.loop-into.invariant.into_room;
}

pub returns-clause-kept : goal.returns-clause-kept
returns-clause-kept g c = sym (ap (take c.args.place) (sym c.loop-into.invariant.joined) ∙ take_at c.loop-into.from.items _ c.args.place (omega arith))

pub returns-clause-moved : goal.returns-clause-moved
returns-clause-moved g c = c.reverse.ensures.items ∙ sym (ap (drop c.args.place) (sym c.loop-into.invariant.joined) ∙ drop_at c.loop-into.from.items _ c.args.place (omega arith))
