use Rattle.std.proofs.Common.{Ok, ap, subst, ◌∙◌}
use Rattle.keybytes.specs.Answered.{Answered}
use Rattle.heap_table.specs.Calls.{Undoes}
use Rattle.heap_table.specs.HeapState.{HeapState, undo_refusal}
use Rattle.live_lemmas.specs.Builds.{LiveValue}
use Rattle.build_events.specs.CoreState.{LiveState, live_with_heap}
use Rattle.build_events.specs.Steps.{OnRows}
use Rattle.build_events.proofs.ReadyFollow.{by_state, ends_without}
use Rattle.ready_indexes.proofs.Each.{table_follows}
use Rattle.ready_indexes.specs.Following.{indexes_of}
use Rattle.live_table.proofs.live.Live.undo.Goals as goal

pub returns-in-None-clause-undone : goal.returns-in-None-clause-undone
returns-in-None-clause-undone g c =
    let inside = c.self.inside in
    let txn = c.args.txn in
    let new : HeapState = c.undo_step.new.self.state in
    let live : LiveState = record { heap = inside.heap.state; ready = indexes_of inside.ready.indexes; builds = inside.builds; build = inside.build } in
    let none = c.ready_undo.ensures.none (c.in_ok-ready.was ∙ ap (λ o. Ok o) c.in-None.is) in
    let undone = subst (λ (h : HeapState). Answered (undo_refusal h txn) (Undoes txn) h c.undo_step.result new) c.in_ok-ready.ensures.same
    (by_state (undo_refusal c.ready_undo.new.self.state txn) (Undoes txn) c.ready_undo.new.self c.undo_step.new.self c.undo_step.result c.undo_step.ensures.undone) in
    subst (λ (l : LiveValue). Answered (undo_refusal l.state.heap txn) (OnRows (Undoes txn)) l.state c.undo_step.result (live_with_heap live new)) c.self.view_is
    (ends_without live new txn c.undo_step.result none (table_follows inside.heap.state.schema inside.heap.state.log inside.ready.indexes c.self.invariant.0) undone)
