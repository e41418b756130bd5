use Rattle.std.proofs.Common.{◌≡◌, Some, rules, ◌∙◌}
use Rattle.replay.specs.Plans.{specs_refusal}
use Rattle.replay.proofs.SpecLists.{accepted_first, made_more, refused_first}
use Rattle.replay.proofs.plan.key_specs.Goals as goal

pub loop-spec-init : goal.loop-spec-init
loop-spec-init c = search rules

pub loop-spec-preserved : goal.loop-spec-preserved
loop-spec-preserved c =
    let schema = c.args.schema.now in
    let (kept, finite, same, refusal) = c.loop-spec.invariant in
    let first = c.in-Some.ensures.steps.0 in
    let made = rw first at same in
    let left = rw first at refusal in
    let spec = c.in-Some.spec in
    let rest = c.next.new.self.rest.items in (
      search rules,
      search rules,
      made_more schema c.args.specs.items rest c.loop-spec.made c.in_ok-made.made spec made c.in_ok-made.ensures.made,
      left ∙ accepted_first schema spec rest c.in_ok-made.ensures.accepted,
    )

pub returns-in_err-made-clause-refused : goal.returns-in_err-made-clause-refused
returns-in_err-made-clause-refused c =
    let schema = c.args.schema.now in
    let left = rw c.in-Some.ensures.steps.0 at c.loop-spec.invariant.3 in
    let refused : specs_refusal schema c.args.specs.items ≡ Some c.in_err-made.field-0.0 =
    left ∙ refused_first schema c.in-Some.spec c.next.new.self.rest.items _ c.in_err-made.ensures.refused in
    search rules
