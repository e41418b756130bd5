use Rattle.std.proofs.Common.{◌≡◌, ℕ, None, List, sym, subst}
use Rattle.keybytes.specs.declared.cell.Cell.{Cell}
use Rattle.keybytes.specs.declared.rid.Rid.{Rid}
use Rattle.heap_table.specs.Calls.{Updates}
use Rattle.build_events.specs.CoreState.{CoreState}
use Rattle.build_events.specs.Steps.{change_refusal, OnRows}
use Rattle.build_events.specs.declared.reply.Reply.TheVariants.{Written}
use Rattle.builder_core.proofs.Told.{tells_on_live}
use Rattle.builder_core.proofs.core_steps.Core.update_lent.Goals as goal

pub update_free-requires : goal.update_free-requires
update_free-requires g c =
    subst (λ (row : List Cell). change_refusal c.self.inside.live.state c.args.txn c.args.rid row ≡ None) (sym c.in_ok-clone.ensures.same) c.in_ok-check_update.ensures.accepted

pub returns : goal.returns
returns g c =
    let row = c.args.row.now in
    let written : ℕ × Rid = (c.in_ok-number.number, c.in_ok-number.rid) in
    let does = subst (λ (cells : List Cell). OnRows (Updates c.args.txn c.args.rid cells) c.self.inside.live.state written c.update_free.new.self.state) c.in_ok-clone.ensures.same
    c.in_ok-number.ensures.updated.1 in (
      subst (λ (s : CoreState). change_refusal s.live c.args.txn c.args.rid row ≡ None) c.self.view_is c.in_ok-check_update.ensures.accepted,
      tells_on_live (λ w. Written w.0 w.1) (Updates c.args.txn c.args.rid row) c.args.self.now c.self.inside.live c.update_free.new.self c.self.inside.building written
          c.self.view_is does,
    )
