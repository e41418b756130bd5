use Rattle.std.proofs.Common.{subst, inr, ◌∙◌}
use Rattle.keybytes.specs.declared.rid.Rid.{Rid}
use Rattle.build_events.specs.declared.event.Event.TheVariants.{Update}
use Rattle.build_events.specs.declared.reply.Reply.{Reply}
use Rattle.build_events.specs.declared.reply.Reply.TheVariants.{Written}
use Rattle.sfbuild_c.specs.Answers.{Answered, OnTable, Steps}
use Rattle.sfbuild_c.proofs.Answering.{answered_done, answered_refused, from_same}
use Rattle.sfbuild_c.proofs.writes.sfbuild_update.Goals as goal

pub returns-in-Some-Written : goal.returns-in-Some-Written
returns-in-Some-Written c =
    let number = c.in-Some-Written.field-0-0 in
    let rid = c.in-Some-Written.field-0-1 in
    let event = Update c.args.txn c.rid-rid.result c.in-Ok.row in
    let old = c.args.session.now in
    let new = c.step.new.self in
    let done = from_same (Steps event c.in-Some-Written.field-0) old c.read_row.new.self new c.in-Ok.ensures.1 c.in-Some-Written.ensures.0 in
    let told = subst (λ (reply : Reply). Answered event reply 0 old new) c.in-Some-Written.field-0-is
    (answered_done event c.in-Some-Written.field-0 old new done (c.in-Some-Written.ensures.1 ∙ c.in-Ok.ensures.2)) in
    inr (
      c.in-Ok.row,
      c.in-Ok.ensures.0,
      (number, rid, subst (λ (at : Rid). Answered (Update c.args.txn at c.in-Ok.row) (Written number rid) 0 old new) c.rid-rid.ensures told),
    )

pub returns-in-Some-Refused : goal.returns-in-Some-Refused
returns-in-Some-Refused c =
    let event = Update c.args.txn c.rid-rid.result c.in-Ok.row in
    let old = c.args.session.now in
    let new = c.tell.new.self in
    let reply = Written 0 c.rid-rid.result in
    let refused = subst (λ (told : Reply). OnTable (Steps event told) c.read_row.new.self c.step.new.self) c.in-Some-Refused.field-0-is c.in-Some-Refused.ensures.0 in
    let told = answered_refused event reply c.in-Some-Refused.fault c.tell.result old c.step.new.self new
    (from_same _ old c.read_row.new.self c.step.new.self c.in-Ok.ensures.1 refused) c.tell.ensures.number c.tell.ensures.cause in
    inr (
      c.in-Ok.row,
      c.in-Ok.ensures.0,
      (0, c.rid-rid.result, subst (λ (at : Rid). Answered (Update c.args.txn at c.in-Ok.row) reply c.tell.result old new) c.rid-rid.ensures told),
    )
