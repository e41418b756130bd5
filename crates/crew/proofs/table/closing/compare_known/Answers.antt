use Rattle.std.proofs.Common.{ap, ◌∙◌}
use Rattle.build_events.specs.CoreState.{LiveState}
use Rattle.crew.specs.Credits.{LockedValue}
use Rattle.crew.proofs.Compared.{all_with}
use Rattle.crew.proofs.table.closing.compare_known.Goals as goal

pub loop-known-preserved : goal.loop-known-preserved
loop-known-preserved g c =
    let i = c.loop-known.invariant in
    record {
      same = ap (λ (l : LockedValue). l.state) c.compare.ensures.same ∙ i.same;
      begin = λ rest.
          i.begin
          (all_with c.args.locked.now.state.heap.log c.loop-known.locked.state.heap.log _ _ _ c.in-Some.ensures.items
          (ap (λ (s : LiveState). s.heap.log) i.same) c.compare.ensures.begins rest);
    }
