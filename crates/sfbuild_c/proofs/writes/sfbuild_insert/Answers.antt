use Rattle.std.proofs.Common.{sym, ap, subst, inr, ◌∙◌}
use Rattle.keybytes.specs.declared.rid.Rid.{Rid}
use Rattle.build_events.specs.declared.event.Event.TheVariants.{Insert}
use Rattle.build_events.specs.declared.reply.Reply.{Reply}
use Rattle.build_events.specs.declared.reply.Reply.TheVariants.{Written}
use Rattle.sfbuild_c.specs.Answers.{Answered, OnTable, Steps}
use Rattle.sfbuild_c.specs.Places.{rid_of}
use Rattle.sfbuild_c.proofs.Answering.{answered_done, answered_refused, from_same}
use Rattle.sfbuild_c.proofs.writes.sfbuild_insert.Goals as goal

pub returns-in-Some-Written-clause-told : goal.returns-in-Some-Written-clause-told
returns-in-Some-Written-clause-told c =
    let number = c.in-Some-Written.field-0-0 in
    let event = Insert c.args.txn c.in-Ok.row in
    let old = c.args.session.now in
    let new = c.step.new.self in
    let done = from_same (Steps event c.in-Some-Written.field-0) old c.read_row.new.self new c.in-Ok.ensures.1 c.in-Some-Written.ensures.0 in
    let told = subst (λ (reply : Reply). Answered event reply 0 old new) c.in-Some-Written.field-0-is
    (answered_done event c.in-Some-Written.field-0 old new done (c.in-Some-Written.ensures.1 ∙ c.in-Ok.ensures.2)) in
    inr (
      c.in-Ok.row,
      c.in-Ok.ensures.0,
      (number, subst (λ (rid : Rid). Answered event (Written number rid) 0 old new) (sym (ap rid_of c.of.ensures)) told),
    )

pub returns-in-Some-Refused-clause-told : goal.returns-in-Some-Refused-clause-told
returns-in-Some-Refused-clause-told c =
    let event = Insert c.args.txn c.in-Ok.row in
    let old = c.args.session.now in
    let refused = subst (λ (told : Reply). OnTable (Steps event told) c.read_row.new.self c.step.new.self) c.in-Some-Refused.field-0-is c.in-Some-Refused.ensures.0 in
    inr (
      c.in-Ok.row,
      c.in-Ok.ensures.0,
      (
        0,
        answered_refused event _ c.in-Some-Refused.fault c.tell.result old c.step.new.self c.tell.new.self
            (from_same _ old c.read_row.new.self c.step.new.self c.in-Ok.ensures.1 refused) c.tell.ensures.number c.tell.ensures.cause,
      ),
    )
