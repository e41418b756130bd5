use Rattle.std.proofs.Common.{◌≡◌, ℕ, List, Option, Some, None, ◌∙◌, ap, sym, subst}
use Rattle.keybytes.specs.Keys.{indexed_key}
use Rattle.key_guards.specs.KeyRefusals.{rid_with, other_guard}
use Rattle.ready_indexes.specs.KeyCauses.{MayAsk, AreFound, found_for}
use Rattle.ready_indexes.specs.Following.{GuardedIndex}
use Rattle.ready_indexes.proofs.KeysAsked.{found_row}
use Rattle.ready_indexes.proofs.ready_index.ReadyIndex.ask_in_place.Goals as goal

pub returns : goal.returns
returns c =
    let heap = c.args.heap.now.state in
    let cells = c.args.row.now in
    let inside = c.self.inside in
    let bytes = c.bytes-bytes.result.now in
    let may = subst (λ (it : GuardedIndex). MayAsk heap it cells) (sym c.self.view_is) c.requires in
    let key : Some bytes ≡ indexed_key inside.spec cells = ap (λ (b : List ℕ). Some b) c.bytes-bytes.ensures ∙ sym c.in-Some.is ∙ c.key_in_place.ensures in
    subst (λ (it : GuardedIndex). AreFound it.index.spec heap.log c.args.txn cells c.first_rid_of_bytes.result c.other_of_bytes.result) c.self.view_is (record {
      holder_is = found_row inside.spec inside.tree.pairs heap.log bytes _ may.follows.pairs c.first_rid_of_bytes.ensures ∙ ap (found_for (rid_with inside.spec heap.log)) key;
      guard_is = c.other_of_bytes.ensures inside.spec heap c.laws.ensures.holds (may.follows.guarded may.unique) ∙ ap (found_for (other_guard inside.spec heap.log c.args.txn)) key;
    })
