use Rattle.std.proofs.Common.{refl, subst, inl, inr}
use Rattle.keybytes.specs.declared.rid.Rid.{Rid}
use Rattle.build_events.specs.declared.event.Event.TheVariants.{Delete}
use Rattle.build_events.specs.declared.reply.Reply.{Reply}
use Rattle.build_events.specs.declared.reply.Reply.TheVariants.{Written}
use Rattle.sfbuild_c.specs.Answers.{Answered, OnTable, Steps}
use Rattle.sfbuild_c.proofs.Answering.{answered_done, answered_refused}
use Rattle.sfbuild_c.proofs.writes.sfbuild_delete.Goals as goal

pub returns-in-Some-Written : goal.returns-in-Some-Written
returns-in-Some-Written c =
    let number = c.in-Some-Written.field-0-0 in
    let rid = c.in-Some-Written.field-0-1 in
    let told = answered_done (Delete c.args.txn c.rid-rid.result) c.in-Some-Written.field-0 c.args.session.now c.step.new.self c.in-Some-Written.ensures.0 c.in-Some-Written.ensures.1 in (
      number,
      rid,
      subst (λ (at : Rid). Answered (Delete c.args.txn at) (Written number rid) 0 c.args.session.now c.step.new.self) c.rid-rid.ensures
          (subst (λ (reply : Reply). Answered (Delete c.args.txn c.rid-rid.result) reply 0 c.args.session.now c.step.new.self) c.in-Some-Written.field-0-is told),
    )

pub returns-in-Some-Refused : goal.returns-in-Some-Refused
returns-in-Some-Refused c =
    let event = Delete c.args.txn c.rid-rid.result in
    let reply = Written 0 c.rid-rid.result in
    let refused = subst (λ (told : Reply). OnTable (Steps event told) c.args.session.now c.step.new.self) c.in-Some-Refused.field-0-is c.in-Some-Refused.ensures.0 in (
      0,
      c.rid-rid.result,
      subst (λ (at : Rid). Answered (Delete c.args.txn at) reply c.tell.result c.args.session.now c.tell.new.self) c.rid-rid.ensures
          (answered_refused event reply c.in-Some-Refused.fault c.tell.result c.args.session.now c.step.new.self c.tell.new.self refused c.tell.ensures.number
          c.tell.ensures.cause),
    )

pub returns : goal.returns
returns c = (0, c.rid-rid.result, inr (inl (refl, c.in-None.ensures)))
