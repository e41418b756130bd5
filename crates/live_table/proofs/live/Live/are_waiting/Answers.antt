use Rattle.std.proofs.Common.{◌≡◌, ◌-◌, ◌<◌, ◌≤◌, List, sym, ap, ◌∙◌, subst}
use Rattle.std.specs.Prelude.{IsTrue, nat_eq, nat_le, ◌↔◌}
use Rattle.side_file.specs.SideFileValue.{SideFileValue}
use Rattle.live_lemmas.specs.Builds.{LiveValue}
use Rattle.live_lemmas.specs.Switching.{IsFedAt}
use Rattle.table_scan.specs.SideFiles.{SidesFollow, put_ends, side_rings, taken_rings}
use Rattle.table_scan.specs.TableBuilds.{BuildFollows}
use Rattle.live_lemmas.proofs.PartOf.{tests_tell}
use Rattle.live_lemmas.proofs.SideEnds.{eight_sides}
use Rattle.live_table.proofs.live.Live.are_waiting.Given as given
use Rattle.live_table.proofs.live.Live.are_waiting.Goals as goal
use Rattle.live_table.proofs.live.Live.are_waiting.Goals.{After-applied-applied}

-- what the tests tell
told :
    (g : given.Over) (c : After-applied-applied g)
    → (c.applied-applied.result ≤ c.fed-fed.result
    → IsTrue (nat_eq c.args.waiting (c.fed-fed.result - c.applied-applied.result)) ↔ IsFedAt c.args.index c.args.self.now c.args.building.now)
    × (c.fed-fed.result < c.applied-applied.result
    → IsTrue (nat_le c.applied-applied.result c.fed-fed.result) ↔ IsFedAt c.args.index c.args.self.now c.args.building.now)
told g c =
    let live : LiveValue = c.args.self.now in
    let sides : List SideFileValue = c.self.inside.sides.items in
    let follows = subst (λ (l : LiveValue). BuildFollows l.state.heap.schema l.state.heap.log l.state.build) c.self.view_is c.self.invariant.1 in
    let has = subst (λ (l : LiveValue). SidesFollow l.state.heap.log l.state.build sides) c.self.view_is c.self.invariant.2 in
    let puts : live.sides ≡ put_ends sides = ap (λ (l : LiveValue). l.sides) (sym c.self.view_is) in
    let rings : side_rings live.sides ≡ taken_rings c.args.building.now.sides = ap side_rings puts ∙ c.self.invariant.5.sides_are ∙ sym c.laws.ensures.ends.sides_are in
    tests_tell live c.args.building.now c.requires.of c.args.index c.args.waiting c.fed-fed.result c.applied-applied.result sides c.index-side.result.now
    c.in-Some.work.now c.in-Some.ensures c.requires.there follows has puts rings
    (eight_sides _ _ _ sides c.self.invariant.5) c.index-side.ensures c.laws-2.ensures c.requires.sees
    c.fed-fed.ensures c.applied-applied.ensures

pub returns-then-applied-fed : goal.returns-then-applied-fed
returns-then-applied-fed g c = (told g (goal.at.returns-then-applied-fed g c).After-applied-applied).0 c.if-applied-fed.true

pub returns-else-applied-fed : goal.returns-else-applied-fed
returns-else-applied-fed g c = (told g (goal.at.returns-else-applied-fed g c).After-applied-applied).1 c.if-applied-fed.false
