use Rattle.std.proofs.Common.{List, ap, ◌∙◌, subst}
use mathlib.Core.List.{IsPrefix}
use Rattle.heap_log.specs.declared.record.LogRec.{LogRec}
use Rattle.crew.specs.Credits.{LockedValue}
use Rattle.build_events.specs.CoreState.{LiveState}
use Rattle.crew.proofs.Compared.{all_with}
use Rattle.crew.proofs.table.closing.compare_all.Goals as goal

pub loop-receipt-preserved : goal.loop-receipt-preserved
loop-receipt-preserved g c =
    let i = c.loop-receipt.invariant in
    let begins = subst (λ (x : List LogRec). IsPrefix x c.loop-receipt.locked.state.heap.log) c.into_known.ensures c.compare.ensures.begins in
    record {
      same = ap (λ (l : LockedValue). l.state) c.compare.ensures.same ∙ i.same;
      begin = λ rest. i.begin (all_with c.args.locked.now.state.heap.log c.loop-receipt.locked.state.heap.log _ _ _ c.in-Some.ensures.items (ap (λ (s : LiveState). s.heap.log) i.same) begins rest);
    }
