use Rattle.std.proofs.Common.{◌≡◌, ◌∙◌, length, sym, ap, subst}
use Rattle.table_scan.specs.TableBuilds.{BuildFollows}
use Rattle.live_lemmas.specs.Builds.{LiveValue}
use Rattle.live_lemmas.proofs.TakenIn.{works_again}
use Rattle.live_table.proofs.live.Live.reunite.Goals as goal

pub returns : goal.returns
returns g c =
    let live : LiveValue = c.args.self.now in
    let follows = subst (λ (l : LiveValue). BuildFollows l.state.heap.schema l.state.heap.log l.state.build) c.self.view_is c.self.invariant.1 in
    let sixteen : length live.pages ≡ 16 = ap (λ (l : LiveValue). length l.pages) (sym c.self.view_is) ∙ c.self.invariant.5.sixteen in
    let eight : length live.sides ≡ 8 = ap (λ (l : LiveValue). length l.sides) (sym c.self.view_is) ∙ c.self.invariant.5.eight in
    works_again live c.args.building.now c.requires follows c.laws.ensures.pages c.laws.ensures.entries sixteen eight c.laws-2.ensures.ends.eight
    c.laws-2.ensures.given g.T.TableRings.pages c.laws-2.ensures.each c.laws-2.ensures.kept
