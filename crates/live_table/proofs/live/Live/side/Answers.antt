use Rattle.std.proofs.Common.{◌≡◌, None, List, ap, sym, ◌∙◌, subst}
use Rattle.chunk_list.specs.Left.{queue_items_left}
use Rattle.side_file.specs.declared.entry.Entry.{Entry}
use Rattle.live_lemmas.specs.Builds.{LiveValue}
use Rattle.table_scan.specs.SideFiles.{AreEntriesLeft, HaveEntryKeys, side_refusal}
use Rattle.table_scan.proofs.Performed.{few_specs}
use Rattle.live_lemmas.proofs.SideEnds.{eight_sides}
use Rattle.table_scan.proofs.SideEnds.{side_there}
use Rattle.table_scan.proofs.SideKept.{entries_left, keys_left}
use Rattle.live_table.proofs.live.Live.side.Goals as goal

pub returns-clause-keys : goal.returns-clause-keys
returns-clause-keys g c =
    let inside = c.self.inside in
    let heap = inside.heap.state in
    let free : side_refusal inside.build c.args.index ≡ None =
    ap (λ (l : LiveValue). side_refusal l.state.build c.args.index) c.self.view_is ∙ c.in_ok-build_with.ensures.accepted in
    let there = side_there inside.build inside.sides.items c.args.index c.index.result.now
    (few_specs heap inside.build inside.sides.items c.self.invariant.1 (eight_sides _ _ _ inside.sides.items c.self.invariant.5)) free c.index.ensures in
    let keys = keys_left heap.log inside.build inside.sides.items c.args.index c.index.result.now c.self.invariant.2 free there in
    subst (λ (l : LiveValue). HaveEntryKeys l.state.build c.args.index (queue_items_left c.entries.result)) c.self.view_is
    (subst (λ (es : List Entry). HaveEntryKeys inside.build c.args.index es) (sym c.entries.ensures) keys)

pub returns-clause-ok : goal.returns-clause-ok
returns-clause-ok g c =
    let inside = c.self.inside in
    let heap = inside.heap.state in
    let free : side_refusal inside.build c.args.index ≡ None =
    ap (λ (l : LiveValue). side_refusal l.state.build c.args.index) c.self.view_is ∙ c.in_ok-build_with.ensures.accepted in
    let there = side_there inside.build inside.sides.items c.args.index c.index.result.now
    (few_specs heap inside.build inside.sides.items c.self.invariant.1 (eight_sides _ _ _ inside.sides.items c.self.invariant.5)) free c.index.ensures in
    let left = entries_left heap.log inside.build inside.sides.items c.args.index c.index.result.now c.self.invariant.2 free there in
    subst (λ (l : LiveValue). AreEntriesLeft l.state.heap.log l.state.build c.args.index (queue_items_left c.entries.result)) c.self.view_is
    (subst (λ (es : List Entry). AreEntriesLeft heap.log inside.build c.args.index es) (sym c.entries.ensures) left)
