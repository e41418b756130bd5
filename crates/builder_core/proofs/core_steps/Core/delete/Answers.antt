use Rattle.std.proofs.Common.{◌≡◌, None, subst}
use Rattle.heap_table.specs.Calls.{Deletes}
use Rattle.heap_table.specs.HeapState.{delete_refusal}
use Rattle.build_events.specs.CoreState.{CoreState}
use Rattle.build_events.specs.declared.reply.Reply.TheVariants.{Written}
use Rattle.builder_core.proofs.Told.{tells_on_live}
use Rattle.builder_core.proofs.core_steps.Core.delete.Goals as goal

pub returns : goal.returns
returns g c = (
  subst (λ (s : CoreState). delete_refusal s.live.heap c.args.txn c.args.rid ≡ None) c.self.view_is c.in_ok-number.ensures.deleted.0,
  tells_on_live (λ w. Written w.0 w.1) (Deletes c.args.txn c.args.rid) c.args.self.now c.self.inside.live c.delete.new.self c.self.inside.building
      (c.in_ok-number.number, c.in_ok-number.rid) c.self.view_is c.in_ok-number.ensures.deleted.1,
)
