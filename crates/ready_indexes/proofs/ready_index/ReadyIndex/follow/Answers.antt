use Rattle.std.proofs.Common.{◌≡◌, ◌∙◌, ap, sym, subst}
use Rattle.keybytes.specs.Pairs.{set_of}
use Rattle.visibility.specs.Applied.{apply_entries}
use Rattle.visibility.specs.SideEntries.{entries_of_change}
use Rattle.visibility.specs.declared.change.Change.{Change}
use Rattle.ready_indexes.specs.Following.{Follows, IsPrepared}
use Rattle.ready_indexes.proofs.Prepared.{is_index_after, left_are, takes_key}
use Rattle.ready_indexes.proofs.ready_index.ReadyIndex.follow.Goals as goal

pub invariant_of-self : goal.invariant_of-self
invariant_of-self c =
    let heap = c.args.heap.now in
    let ready = c.args.ready.now in
    let inside = c.self.inside in
    let left = c.change_tree-taken.new.tree.pairs in
    let prepared = subst (IsPrepared ready) (sym c.self.view_is) c.requires.prepared in
    let follows = subst (Follows heap.state.schema heap.state.log) (sym c.self.view_is) c.requires.follows in
    let applied : set_of left ≡ apply_entries (entries_of_change ready.rid inside.change) (set_of inside.tree.pairs) =
    c.change_tree-taken.ensures.changed
    ∙ ap (λ (change : Change). apply_entries (entries_of_change ready.rid change) (set_of inside.tree.pairs)) c.replace-change.ensures.value in
    is_index_after heap ready c.requires.ready (c.laws.ensures.sets ready c.requires.ready) _ prepared follows left applied
    c.change_tree-taken.ensures.order c.laws.ensures.rows (c.laws.ensures.ready ready c.requires.ready) c.columns-columns.ensures.key

pub tell-requires-clause-taken : goal.tell-requires-clause-taken
tell-requires-clause-taken c =
    let ready = c.args.ready.now in
    let prepared = subst (IsPrepared ready) (sym c.self.view_is) c.requires.prepared in
    c.change_tree-taken.ensures.taken ∙ ap (λ (change : Change). change.delete) c.replace-change.ensures.value ∙ takes_key ready _ prepared

pub returns-clause-follows : goal.returns-clause-follows
returns-clause-follows c =
    let heap = c.args.heap.now in
    let ready = c.args.ready.now in
    let inside = c.self.inside in
    let left = c.change_tree-taken.new.tree.pairs in
    let prepared = subst (IsPrepared ready) (sym c.self.view_is) c.requires.prepared in
    let follows = subst (Follows heap.state.schema heap.state.log) (sym c.self.view_is) c.requires.follows in
    let applied : set_of left ≡ apply_entries (entries_of_change ready.rid inside.change) (set_of inside.tree.pairs) =
    c.change_tree-taken.ensures.changed
    ∙ ap (λ (change : Change). apply_entries (entries_of_change ready.rid change) (set_of inside.tree.pairs)) c.replace-change.ensures.value in
    record {
      columns = follows.columns;
      pairs = left_are heap ready c.requires.ready (c.laws.ensures.sets ready c.requires.ready) _ prepared follows left applied c.change_tree-taken.ensures.order;
      guarded = c.tell.ensures;
    }
