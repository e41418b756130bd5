use Rattle.std.proofs.Common.{arith, ◌≡◌, ◌+◌, ◌/◌, ◌<◌, ◌≤◌, ◌∙◌, get_or, length, inl, inr}
use Rattle.std.specs.Prelude.{None}
use Rattle.run_merge.proofs.Games.{way_up, way_wide, root_wide, made_few, compares_one, few_made, within, below_power}
use Rattle.run_merge.proofs.Replays.{replay_ends, replay_steps, waiting_inside}
use Rattle.run_merge.proofs.losers.replay.Goals as goal

pub game-won-requires-clause-other : goal.game-won-requires-clause-other
game-won-requires-clause-other c =
    waiting_inside c.args.heads.now c.loop-node.nodes c.loop-node.node c.loop-node.winner c.loop-node.invariant.replay c.loop-node-test.true
    c.loop-node.invariant.inside

pub overflow_add-compares : goal.overflow_add-compares
overflow_add-compares c =
    let waits = get_or c.loop-node.nodes (c.loop-node.node / 2) 0 in
    let heads = c.args.heads.now in
    omega (
      arith,
      below_power c.loop-node.compares,
      made_few (get_or heads c.loop-node.winner None) (get_or heads waits None) c.game-won.result.2 c.game-won.ensures.compares,
      few_made c.loop-node.node c.loop-node.compares
          (length c.args.heads.now + c.args.leaf) c.loop-node.invariant.some c.loop-node.invariant.way,
    )

pub loop-node-preserved : goal.loop-node-preserved
loop-node-preserved c =
    let heads = c.args.heads.now in
    let waits = get_or c.loop-node.nodes (c.loop-node.node / 2) 0 in
    let here = get_or heads c.loop-node.winner None in
    let there = get_or heads waits None in
    let waiting : waits < length heads =
    waiting_inside heads c.loop-node.nodes c.loop-node.node c.loop-node.winner c.loop-node.invariant.replay c.loop-node-test.true
    c.loop-node.invariant.inside in
    let few : c.game-won.result.2 ≤ 1 = made_few here there c.game-won.result.2 c.game-won.ensures.compares in
    let inside : c.game-won.result.0 < length heads =
    elim c.game-won.ensures.loser [
      | inl (e, _) ↦ omega (arith, e, c.loop-node.invariant.winner)
      | inr (e, _) ↦ omega (arith, e, waiting)
    ] in
    record {
      some = omega arith;
      inside = omega arith;
      way = way_up c.loop-node.node c.loop-node.compares c.game-won.result.2 (length c.args.heads.now + c.args.leaf) few c.loop-node.invariant.way;
      counted = λ pairs.
          way_wide c.loop-node.node c.loop-node.compares c.game-won.result.2 (length heads + c.args.leaf)
          (c.game-won.ensures.compares ∙ compares_one here there (pairs c.loop-node.winner c.loop-node.invariant.winner) (pairs waits waiting))
          (c.loop-node.invariant.counted pairs);
      winner = inside;
      replay = replay_steps c.args.heads.now c.loop-node.nodes c.loop-node.node c.loop-node.winner c.loop-node.invariant.replay c.loop-node-test.true
          c.loop-node.invariant.inside
          c.game-won.result.0 c.game-won.result.1 inside c.game-won.ensures.winner c.game-won.ensures.loser;
    }

pub returns-clause-lost : goal.returns-clause-lost
returns-clause-lost c =
    let root : c.loop-node.node ≡ 1 = omega (arith, c.loop-node.invariant.some, c.loop-node-test.false) in
    replay_ends c.args.heads.now c.loop-node.nodes c.loop-node.node c.loop-node.winner root c.loop-node.invariant.replay

pub returns-clause-compares : goal.returns-clause-compares
returns-clause-compares c = λ d fits.
    within c.loop-node.node c.loop-node.compares c.args.leaf (length c.args.heads.now) d c.loop-node.invariant.some c.loop-node.invariant.way c.requires.leaf
    fits

pub returns-clause-counted : goal.returns-clause-counted
returns-clause-counted c = λ pairs.
    let root : c.loop-node.node ≡ 1 = omega (arith, c.loop-node.invariant.some, c.loop-node-test.false) in
    root_wide c.loop-node.node c.loop-node.compares (length c.args.heads.now + c.args.leaf) root (c.loop-node.invariant.counted pairs)
