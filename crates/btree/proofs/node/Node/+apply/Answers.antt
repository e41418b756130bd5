use Rattle.std.proofs.Common.{◌+◌, ◌-◌, ◌≤◌, ◌∙◌, arith}
use Rattle.btree.proofs.Changing.{walked_on, walked_length}
use Rattle.btree.proofs.FanFacts.{at_fan, at_leaf, child_height}
use Rattle.btree.proofs.LeafSteps.{leaf_rises}
use Rattle.btree.proofs.Ordered.{order_take, rest_walked}
use Rattle.btree.proofs.Stops.{stops_there}
use Rattle.btree.proofs.Turns.{fan_ordered, here, place, turned}
use Rattle.btree.proofs.node.Node.+apply.Goals as goal
use Rattle.btree.proofs.node.Node.+apply.Goals.{in-Leaf, in-Fan+else-children-test}

pub first_share-share-requires-clause-rise : goal.first_share-share-requires-clause-rise
first_share-share-requires-clause-rise t c = fan_ordered c.children.invariant.kept

pub first_share-share-requires-clause-order : goal.first_share-share-requires-clause-order
first_share-share-requires-clause-order t c = rest_walked (c.args.count - c.children.steps.taken) c.children.invariant.walked c.requires.order (omega arith)

pub child_mut-requires : goal.child_mut-requires
child_mut-requires t c = (place c.children.invariant.kept c.first_share-share.ensures).within

pub apply-more-requires : goal.apply-more-requires
apply-more-requires t c =
    let f = at_fan c.self.view_is c.self.invariant c.in-Fan.is in
    let kept = c.children.invariant.kept in
    let s = c.first_share-share.ensures in
    let h = child_height (here kept s) (place kept s) c.child_mut.result.now c.child_mut.ensures.child in (
      omega (arith, h, f.height, c.children.invariant.height, c.decreases),
      (
        omega (arith, s.few, walked_length c.children.invariant.walked, c.requires.within),
        order_take _ _ _ s.few (rest_walked (c.args.count - c.children.steps.taken) c.children.invariant.walked c.requires.order (omega arith)),
      ),
    )

pub invariant_of-self : goal.invariant_of-self
invariant_of-self t c =
    let order = rest_walked (c.args.count - c.children.steps.taken) c.children.invariant.walked c.requires.order (omega arith) in
    (turned c.child_mut.result.now c.apply-more.new.self c.children.invariant.kept c.first_share-share.ensures order c.child_mut.ensures.child c.apply-more.ensures.walked
    c.apply-more.ensures.height).kept

pub returns-then-stops-clause-walked : goal.returns-then-stops-clause-walked
returns-then-stops-clause-walked t c =
    let f = at_fan c.self.view_is c.self.invariant c.in-Fan.is in
    let order = rest_walked (c.args.count - c.children.steps.taken) c.children.invariant.walked c.requires.order (omega arith) in
    let turn = turned c.child_mut.result.now c.apply-more.new.self c.children.invariant.kept c.first_share-share.ensures order c.child_mut.ensures.child c.apply-more.ensures.walked
    c.apply-more.ensures.height in
    let fits : c.children.steps.taken + c.apply-more.result.taken ≤ c.args.count = omega (arith, turn.walked.within) in
    rw (f.marks, c.then-steps.ensures) (walked_on c.children.invariant.walked turn.walked fits)

pub returns-then-stops-clause-stops : goal.returns-then-stops-clause-stops
returns-then-stops-clause-stops t c = λ less.
    let order = rest_walked (c.args.count - c.children.steps.taken) c.children.invariant.walked c.requires.order (omega arith) in
    let s = c.first_share-share.ensures in
    let turn = turned c.child_mut.result.now c.apply-more.new.self c.children.invariant.kept s order c.child_mut.ensures.child c.apply-more.ensures.walked c.apply-more.ensures.height in
    stops_there c.child_mut.result.now c.apply-more.new.self c.children.invariant.kept s order turn.kept c.apply-more.ensures.walked c.if-stops.true (c.apply-more.ensures.stops c.if-stops.true)

pub children-preserved : goal.children-preserved
children-preserved t c =
    let order = rest_walked (c.args.count - c.children.steps.taken) c.children.invariant.walked c.requires.order (omega arith) in
    let turn = turned c.child_mut.result.now c.apply-more.new.self c.children.invariant.kept c.first_share-share.ensures order c.child_mut.ensures.child c.apply-more.ensures.walked
    c.apply-more.ensures.height in
    let fits : c.children.steps.taken + c.apply-more.result.taken ≤ c.args.count = omega (arith, turn.walked.within) in
    record {
      kept = turn.kept;
      walked = rw c.then-steps.ensures (walked_on c.children.invariant.walked turn.walked fits);
      height = turn.height ∙ c.children.invariant.height;
    }

pub invariant_of-self-2 : goal.invariant_of-self-2
invariant_of-self-2 t c = elim c.match-self.branch [
  | in-Leaf w ↦ rw w.self-inside-is (leaf_rises _ (at_leaf c.self.view_is c.self.invariant w.in-Leaf.is) w.apply_to_leaf.ensures.walked)
  | in-Fan+else-children-test w ↦ rw w.self-inside-is w.children.invariant.kept
]
