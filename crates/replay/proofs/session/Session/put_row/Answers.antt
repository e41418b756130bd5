use Rattle.std.proofs.Common.{Option, inl, inr, refl, subst, sym}
use Rattle.keybytes.specs.declared.fault.Fault.{Fault}
use Rattle.replay.specs.Answers.{AddsRow, Unless}
use Rattle.replay.specs.declared.answer.Answer.TheVariants.{Refused, Row}
use Rattle.replay.proofs.session.Session.put_row.Goals as goal

pub returns-in-Ok : goal.returns-in-Ok
returns-in-Ok g c =
    let core = c.args.leased.now in
    let left = c.put.new.leased in
    let puts = rw c.in_ok-row.ensures.ok at c.in-Ok.ensures.ok in
    record {
      core = subst (λ (cause : Option Fault). Unless cause (AddsRow c.args.cells.items) core (Row c.in-Ok.rid) left) (sym c.in_ok-row.ensures.accepted)
          (inl (c.in_ok-txn.txn, c.begin.new.leased, c.in-Ok.rid, refl, c.in_ok-txn.ensures.ok, puts));
      labels = refl;
      choice = refl;
      status = refl;
    }

pub returns-in-Err : goal.returns-in-Err
returns-in-Err g c =
    let core = c.args.leased.now in
    let left = c.take_back.new.leased in
    let given = Refused c.in-Err.fault in
    let failed = rw c.in_ok-row.ensures.ok at c.in-Err.ensures.refused in
    record {
      core = subst (λ (cause : Option Fault). Unless cause (AddsRow c.args.cells.items) core given left) (sym c.in_ok-row.ensures.accepted)
          (inr (inl (c.in_ok-txn.txn, c.begin.new.leased, c.in-Err.fault, c.put.new.leased, c.take_back.ensures.0, refl, c.in_ok-txn.ensures.ok, failed, c.take_back.ensures.1)));
      labels = refl;
      choice = refl;
      status = refl;
    }
