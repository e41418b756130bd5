use Rattle.std.proofs.Common.{◌≡◌, None, ap, subst, ◌∙◌}
use Rattle.live_lemmas.specs.Builds.{LiveValue}
use Rattle.table_scan.specs.SideFiles.{AreEntriesLeft, side_refusal}
use Rattle.table_scan.proofs.Performed.{few_specs}
use Rattle.live_lemmas.proofs.Settling.{left_in, side_free}
use Rattle.live_lemmas.proofs.SideEnds.{eight_sides}
use Rattle.table_scan.proofs.SideEnds.{side_there}
use Rattle.table_scan.proofs.SideKept.{entries_left}
use Rattle.live_table.proofs.live.Live.left_in_side.Goals as goal

pub returns-clause-left : goal.returns-clause-left
returns-clause-left g c =
    let inside = c.self.inside in
    let heap = inside.heap.state in
    let now = c.args.self.now.state in
    let free : side_refusal inside.build c.args.index ≡ None =
    ap (λ (l : LiveValue). side_refusal l.state.build c.args.index) c.self.view_is ∙ side_free now.build c.args.index c.requires.runs c.requires.there in
    let there = side_there inside.build inside.sides.items c.args.index c.index-side.result.now
    (few_specs heap inside.build inside.sides.items c.self.invariant.1 (eight_sides _ _ _ inside.sides.items c.self.invariant.5)) free c.index-side.ensures in
    let left = entries_left heap.log inside.build inside.sides.items c.args.index c.index-side.result.now c.self.invariant.2 free there in
    let here : AreEntriesLeft now.heap.log now.build c.args.index c.index-side.result.now.left =
    subst (λ (l : LiveValue). AreEntriesLeft l.state.heap.log l.state.build c.args.index c.index-side.result.now.left) c.self.view_is left in
    rw (c.left.ensures) (left_in now.heap.log now.build c.args.index c.index-side.result.now.left c.requires.runs c.requires.there here)
