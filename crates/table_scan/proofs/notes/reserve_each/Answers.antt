use Rattle.std.proofs.Common.{ap, ◌∙◌, arith, inl, inr}
use Rattle.side_file.specs.SideFileValue.{SideFileValue}
use Rattle.table_scan.specs.Noting.{without_room}
use Rattle.page_workers.proofs.Places.{at_set, kept}
use Rattle.table_scan.proofs.notes.reserve_each.Goals as goal

pub loop-k-preserved : goal.loop-k-preserved
loop-k-preserved c =
    let old : SideFileValue = c.index_mut.result.now in
    let new : SideFileValue = c.reserve.new.self in
    let done = c.in_ok-reserve.ensures.reserved.1 in
    let room = ap (λ (s : SideFileValue). s.room) done in
    record {
      room = λ k side less at. elim (at_set c.loop-k.sides.items c.loop-k.k new k side at) [
        | inl here ↦ rw here.1 (grind (arith, room))
        | inr other ↦ c.loop-k.invariant.room k side (omega (arith, less, other.0)) other.1
      ];
      same = kept without_room c.loop-k.sides.items _ c.loop-k.k new old c.loop-k.invariant.same (ap without_room done ∙ ap without_room c.index_mut.ensures.value);
    }
