use Rattle.std.proofs.Common.{◌≡◌, ℕ, length, None, Some, List, sym, subst}
use Rattle.keybytes.specs.declared.cell.Cell.{Cell}
use Rattle.keybytes.specs.declared.rid.Rid.{Rid}
use Rattle.keybytes.specs.Rows.{row_bytes}
use Rattle.heap_table.specs.Calls.{Inserts}
use Rattle.heap_table.specs.HeapState.{insert_place}
use Rattle.build_events.specs.CoreState.{CoreState}
use Rattle.build_events.specs.Steps.{row_refusal, OnRows}
use Rattle.build_events.specs.declared.reply.Reply.TheVariants.{Written}
use Rattle.builder_core.proofs.Told.{tells_on_live}
use Rattle.builder_core.proofs.core_steps.Core.insert_lent.Goals as goal

pub insert_free-requires-clause-free : goal.insert_free-requires-clause-free
insert_free-requires-clause-free g c =
    subst (λ (row : List Cell). row_refusal c.self.inside.live.state c.args.txn row ≡ None) (sym c.in_ok-clone.ensures.same) c.in_ok-place.ensures.accepted

pub insert_free-requires-clause-place : goal.insert_free-requires-clause-place
insert_free-requires-clause-place g c =
    subst (λ (row : List Cell). insert_place c.self.inside.live.state.heap (length (row_bytes row)) ≡ Some c.in_ok-place.place) (sym c.in_ok-clone.ensures.same)
    c.in_ok-place.ensures.place

pub returns : goal.returns
returns g c =
    let row = c.args.row.now in
    let written : ℕ × Rid = (c.in_ok-number.number, c.in_ok-number.rid) in
    let does = subst (λ (cells : List Cell). OnRows (Inserts c.args.txn cells) c.self.inside.live.state written c.insert_free.new.self.state) c.in_ok-clone.ensures.same
    c.in_ok-number.ensures.inserted.1 in (
      subst (λ (s : CoreState). row_refusal s.live c.args.txn row ≡ None) c.self.view_is c.in_ok-place.ensures.accepted,
      tells_on_live (λ w. Written w.0 w.1) (Inserts c.args.txn row) c.args.self.now c.self.inside.live c.insert_free.new.self c.self.inside.building written
          c.self.view_is does,
    )
