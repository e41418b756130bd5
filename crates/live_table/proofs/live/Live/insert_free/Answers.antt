use Rattle.std.proofs.Common.{◌≡◌, length, None, Some, subst, sym}
use Rattle.keybytes.specs.Rows.{row_bytes}
use Rattle.heap_table.specs.HeapState.{HeapState, insert_place, insert_refusal}
use Rattle.live_lemmas.specs.Builds.{LiveValue}
use Rattle.ready_indexes.specs.KeyCauses.{keys_refusal}
use Rattle.keybytes.proofs.FirstCause.{both_none}
use Rattle.ready_indexes.proofs.Each.{let_in_by}
use Rattle.ready_indexes.specs.Following.{indexes_of}
use Rattle.live_table.proofs.live.Live.insert_free.Goals as goal

pub ready_insert_at-requires-clause-free : goal.ready_insert_at-requires-clause-free
ready_insert_at-requires-clause-free g c =
    subst (λ (l : LiveValue). insert_refusal l.state.heap c.args.txn c.args.row ≡ None) (sym c.self.view_is)
    (both_none (insert_refusal c.args.self.now.state.heap c.args.txn c.args.row) _ c.requires.free).0

pub ready_insert_at-requires-clause-place : goal.ready_insert_at-requires-clause-place
ready_insert_at-requires-clause-place g c =
    subst (λ (l : LiveValue). insert_place l.state.heap (length (row_bytes c.args.row)) ≡ Some c.args.rid) (sym c.self.view_is) c.requires.place

pub write-requires-clause-keys : goal.write-requires-clause-keys
write-requires-clause-keys g c =
    let ready = c.in_ok-ready.ready in
    let log = c.ready_insert_at.new.self.state.log in
    let items = indexes_of c.self.inside.ready.indexes in
    let free = (both_none (insert_refusal c.args.self.now.state.heap c.args.txn c.args.row) _ c.requires.free).1 in
    let inside = subst (λ (l : LiveValue). keys_refusal 0 l.state.ready l.state.heap.log c.args.txn None (Some c.args.row) ≡ None) (sym c.self.view_is) free in
    let here = subst (λ (h : HeapState). keys_refusal 0 items h.log c.args.txn None (Some c.args.row) ≡ None) (sym c.in_ok-ready.ensures.same) inside in
    let_in_by log items ready c.args.txn None (Some c.args.row) c.in_ok-ready.ensures.writes.by c.in_ok-ready.ensures.empty c.in_ok-ready.ensures.writes.new here
