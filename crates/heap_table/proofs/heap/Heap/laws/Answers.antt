use Rattle.std.proofs.Common.{subst}
use Rattle.heap_log.specs.Growing.{UndoesNameEarlier}
use Rattle.heap_table.specs.HeapValue.{HeapValue}
use Rattle.heap_table.specs.Kept.{RowsFit}
use Rattle.heap_table.specs.Pages.{SetsRow}
use Rattle.heap_table.specs.Ready.{IsReady, IsLawfulChange, after_ready}
use Rattle.heap_table.specs.Sound.{HoldsFollowLog}
use Rattle.heap_table.specs.declared.ready.Ready.{Ready}
use Rattle.heap_table.proofs.Done.{change_sets}
use Rattle.heap_table.proofs.Holding.{holds_follow}
use Rattle.heap_table.proofs.KeptFacts.{rows_fit}
use Rattle.heap_table.proofs.Performing.{lawful_change}
use Rattle.heap_table.proofs.heap.Heap.laws.Goals as goal

pub returns-clause-rows : goal.returns-clause-rows
returns-clause-rows c = subst (λ (h : HeapValue). RowsFit h.state.schema h.state.log) c.self.view_is (rows_fit _ _ c.self.invariant.kept.writes_fit)

pub returns-clause-holds : goal.returns-clause-holds
returns-clause-holds c = subst (λ (h : HeapValue). HoldsFollowLog h.state) c.self.view_is (holds_follow _ c.self.invariant.kept.sound)

pub returns-clause-undos : goal.returns-clause-undos
returns-clause-undos c = subst (λ (h : HeapValue). UndoesNameEarlier h.state.log) c.self.view_is c.laws.ensures

pub returns-clause-ready : goal.returns-clause-ready
returns-clause-ready c = subst (λ (h : HeapValue). (ready : Ready) → IsReady h ready → IsLawfulChange h.state ready) c.self.view_is
    (λ ready is. lawful_change _ _ ready is c.self.invariant.kept)

pub returns-clause-sets : goal.returns-clause-sets
returns-clause-sets c = subst (λ (h : HeapValue). (ready : Ready) → IsReady h ready → SetsRow h.state.log ready.rid ready.new (after_ready h.state ready).log) c.self.view_is
    (λ ready is. change_sets _ _ ready is c.self.invariant.kept c.laws.ensures)
