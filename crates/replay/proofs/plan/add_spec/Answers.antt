use Rattle.std.proofs.Common.{subst}
use Rattle.std.specs.Prelude.{IfSome}
use Rattle.keybytes.specs.Keys.{KeySpecValue}
use Rattle.replay.specs.Plans.{IsOneMore}
use Rattle.replay.proofs.SpecLists.{wanted}
use Rattle.replay.proofs.plan.add_spec.Goals as goal

pub returns-in-Ok-clause-made : goal.returns-in-Ok-clause-made
returns-in-Ok-clause-made c =
    subst (λ (one : KeySpecValue). IfSome c.with_one.result (IsOneMore c.args.made one)) c.in-Ok.ensures.made c.with_one.ensures

pub returns-in-Err-Memory-clause-accepted : goal.returns-in-Err-Memory-clause-accepted
returns-in-Err-Memory-clause-accepted c =
    wanted c.args.schema.now c.args.spec (rw c.in-Err-Memory.field-0-is at c.in-Err-Memory.ensures.refused)
