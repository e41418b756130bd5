use Rattle.std.proofs.Common.{subst}
use Rattle.std.specs.Prelude.{IfSome}
use Rattle.live_lemmas.specs.Builds.{LiveValue}
use Rattle.table_scan.specs.SideFiles.{NoneAhead}
use Rattle.table_scan.proofs.Performed.{few_specs}
use Rattle.live_lemmas.proofs.SideEnds.{eight_sides}
use Rattle.table_scan.proofs.SideKept.{none_ahead}
use Rattle.live_table.proofs.live.Live.build.Goals as goal

pub returns-clause-fed : goal.returns-clause-fed
returns-clause-fed g c =
    let inside = c.self.inside in
    let sides = inside.sides.items in
    subst (λ (l : LiveValue). IfSome l.state.build (NoneAhead l.state.heap.log)) c.self.view_is
    (none_ahead inside.heap.state.log inside.build sides c.self.invariant.2
    (few_specs inside.heap.state inside.build sides c.self.invariant.1 (eight_sides _ _ _ sides c.self.invariant.5)))
