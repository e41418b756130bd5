use Rattle.std.proofs.Common.{arith, ◌≡◌, ◌+◌, ◌-◌, ◌<◌, length}
use Rattle.run_merge.proofs.Games.{all_more, all_counted}
use Rattle.run_merge.proofs.tournament.play_all.Goals as goal

pub loop-node-preserved : goal.loop-node-preserved
loop-node-preserved c =
    let node = c.loop-node.node in
    let next : node - 1 + 1 ≡ node = omega arith in
    let some : 0 < node - 1 = omega arith in
    record {
      some = λ _. some;
      inside = omega arith;
      tree = c.play-compares.ensures.tree;
      done = all_more c.args.heads.now c.loop-node.nodes c.play-compares.new.nodes node (node - 1) next some c.loop-node.invariant.done
          c.play-compares.ensures.here c.play-compares.ensures.others;
      compares = omega arith;
      counted = λ pairs. omega (arith, c.loop-node.invariant.counted pairs, c.play-compares.ensures.counted pairs);
    }

pub returns-clause-counted : goal.returns-clause-counted
returns-clause-counted c = λ pairs.
    all_counted c.loop-node.node c.loop-node.compares (length c.args.heads.now) c.loop-node.invariant.some (omega (arith, c.loop-node-test.false))
    (c.loop-node.invariant.counted pairs)
