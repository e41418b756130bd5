use Rattle.std.proofs.Common.{◌≡◌, None, subst}
use Rattle.heap_table.specs.Calls.{Inserts}
use Rattle.build_events.specs.CoreState.{CoreState}
use Rattle.build_events.specs.Steps.{row_refusal}
use Rattle.build_events.specs.declared.reply.Reply.TheVariants.{Written}
use Rattle.builder_core.proofs.Told.{tells_on_live}
use Rattle.builder_core.proofs.core_steps.Core.insert.Goals as goal

pub returns : goal.returns
returns g c = (
  subst (λ (s : CoreState). row_refusal s.live c.args.txn c.args.row ≡ None) c.self.view_is c.in_ok-number.ensures.inserted.0,
  tells_on_live (λ w. Written w.0 w.1) (Inserts c.args.txn c.args.row) c.args.self.now c.self.inside.live c.insert.new.self c.self.inside.building
      (c.in_ok-number.number, c.in_ok-number.rid) c.self.view_is c.in_ok-number.ensures.inserted.1,
)
