use Rattle.std.proofs.Common.{◌≡◌, ◌+◌, ◌-◌, ◌≤◌, List, length, sym, ap, ◌∙◌, subst, arith}
use Rattle.side_file.specs.SideFileValue.{SideFileValue}
use Rattle.live_lemmas.specs.Builds.{LiveValue, core_state}
use Rattle.live_lemmas.specs.CatchingUp.{left_at}
use Rattle.table_scan.specs.TableBuilds.{BuildFollows}
use Rattle.table_scan.specs.SideFiles.{SidesFollow}
use Rattle.live_lemmas.proofs.LeftOver.{left_known}
use Rattle.live_lemmas.proofs.SideEnds.{eight_sides}
use Rattle.live_table.proofs.live.Live.unapplied_of.Given as given
use Rattle.live_table.proofs.live.Live.unapplied_of.Goals as goal
use Rattle.live_table.proofs.live.Live.unapplied_of.Goals.{After-applied}

-- what is left of the index
known :
    (g : given.Over) (c : After-applied g)
    → (c.applied.result ≤ length c.index-side.result.now.fed)
    × (length c.index-side.result.now.left + (length c.index-side.result.now.fed - c.applied.result) ≡ left_at c.args.index (core_state c.args.self.now c.args.building.now))
known g c =
    let sides : List SideFileValue = c.self.inside.sides.items in
    let follows = subst (λ (l : LiveValue). BuildFollows l.state.heap.schema l.state.heap.log l.state.build) c.self.view_is c.self.invariant.1 in
    let has = subst (λ (l : LiveValue). SidesFollow l.state.heap.log l.state.build sides) c.self.view_is c.self.invariant.2 in
    left_known c.args.self.now c.args.building.now c.args.index c.applied.result sides c.index-side.result.now c.in-Some.work.now c.requires.works c.in-Some.ensures
    c.requires.runs c.requires.there follows has (ap (λ (l : LiveValue). l.sides) (sym c.self.view_is)) (eight_sides _ _ _ sides c.self.invariant.5)
    c.index-side.ensures c.laws.ensures.ends.eight c.applied.ensures

pub overflow_sub-result : goal.overflow_sub-result
overflow_sub-result g c =
    let left = known g (goal.at.overflow_sub-result g c).After-applied in
    omega (arith, left.0, c.fed.ensures)

pub returns-clause-left : goal.returns-clause-left
returns-clause-left g c =
    let left = known g (goal.at.returns-clause-left g c).After-applied in
    ap (λ n. n + (c.fed.result - c.applied.result)) c.left.ensures ∙ ap (λ n. length c.index-side.result.now.left + (n - c.applied.result)) c.fed.ensures ∙ left.1
