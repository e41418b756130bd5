use Rattle.std.proofs.Common.{◌≡◌}
use Rattle.replay.specs.Plans.{specs_refusal}
use Rattle.replay.proofs.SpecLists.{AreMade}
use Rattle.replay.proofs.plan.key_specs.Given as goal

abbrev pub invariant-loop-spec : goal.invariant-loop-spec
invariant-loop-spec l =
    let schema = l.fn.schema in
    let rest = l.spec-iterator.rest.items in
    goal.iterator-loop-spec.can_next l.spec-iterator × goal.iterator-loop-spec.is_finite l.spec-iterator
    × AreMade schema l.fn.specs.items rest l.made
    × (specs_refusal schema l.fn.specs.items ≡ specs_refusal schema rest)
