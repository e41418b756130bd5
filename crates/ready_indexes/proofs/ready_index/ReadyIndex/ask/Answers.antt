use Rattle.std.proofs.Common.{◌≡◌, ℕ, List, Option, Some, None, ◌∙◌, ap, sym, subst}
use Rattle.keybytes.specs.Keys.{indexed_key}
use Rattle.key_guards.specs.KeyRefusals.{rid_with, other_guard}
use Rattle.ready_indexes.specs.KeyCauses.{MayAsk, AreFound, found_for}
use Rattle.ready_indexes.specs.Following.{GuardedIndex}
use Rattle.ready_indexes.proofs.KeysAsked.{found_row}
use Rattle.ready_indexes.proofs.ready_index.ReadyIndex.ask.Goals as goal

pub returns : goal.returns
returns c =
    let heap = c.args.heap.now.state in
    let cells = c.args.row.now in
    let inside = c.self.inside in
    let may = subst (λ (it : GuardedIndex). MayAsk heap it cells) (sym c.self.view_is) c.requires in
    let key : Some c.in-Some.key ≡ indexed_key inside.spec cells = sym c.in-Some.is ∙ c.in-Ok.ensures.value in
    subst (λ (it : GuardedIndex). AreFound it.index.spec heap.log c.args.txn cells c.first_rid.result c.other.result) c.self.view_is (record {
      holder_is = found_row inside.spec inside.tree.pairs heap.log c.in-Some.key _ may.follows.pairs c.first_rid.ensures ∙ ap (found_for (rid_with inside.spec heap.log)) key;
      guard_is = c.other.ensures inside.spec heap c.laws.ensures.holds (may.follows.guarded may.unique) ∙ ap (found_for (other_guard inside.spec heap.log c.args.txn)) key;
    })
