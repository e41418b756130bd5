use Rattle.std.proofs.Common.{◌≡◌, ◌∙◌, None, Some, ap, subst, sym}
use Rattle.heap_log.specs.Standing.{live_at}
use Rattle.heap_table.specs.HeapState.{HeapState, update_refusal}
use Rattle.live_lemmas.specs.Builds.{LiveValue}
use Rattle.ready_indexes.specs.KeyCauses.{keys_refusal}
use Rattle.keybytes.proofs.FirstCause.{both_none}
use Rattle.ready_indexes.proofs.Each.{let_in_by}
use Rattle.ready_indexes.specs.Following.{indexes_of}
use Rattle.live_table.proofs.live.Live.update_free.Goals as goal

pub ready_update_at-requires : goal.ready_update_at-requires
ready_update_at-requires g c =
    subst (λ (l : LiveValue). update_refusal l.state.heap c.args.txn c.args.rid c.args.row ≡ None) (sym c.self.view_is)
    (both_none (update_refusal c.args.self.now.state.heap c.args.txn c.args.rid c.args.row) _ c.requires).0

pub write-requires-clause-keys : goal.write-requires-clause-keys
write-requires-clause-keys g c =
    let ready = c.in_ok-ready.ready in
    let log = c.ready_update_at.new.self.state.log in
    let items = indexes_of c.self.inside.ready.indexes in
    let free = (both_none (update_refusal c.args.self.now.state.heap c.args.txn c.args.rid c.args.row) _ c.requires).1 in
    let inside = subst (λ (l : LiveValue). keys_refusal 0 l.state.ready l.state.heap.log c.args.txn (live_at l.state.heap.log c.args.rid) (Some c.args.row) ≡ None) (sym c.self.view_is) free in
    let here = subst (λ (h : HeapState). keys_refusal 0 items h.log c.args.txn (live_at h.log c.args.rid) (Some c.args.row) ≡ None) (sym c.in_ok-ready.ensures.same) inside in
    let_in_by log items ready c.args.txn (live_at log c.args.rid) (Some c.args.row) c.in_ok-ready.ensures.writes.by (c.in_ok-ready.ensures.ready.old ∙ ap (live_at log) c.in_ok-ready.ensures.place) c.in_ok-ready.ensures.writes.new here
