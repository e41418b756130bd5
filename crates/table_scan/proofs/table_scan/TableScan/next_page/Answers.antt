use Rattle.std.proofs.Common.{◌∙◌, ◌<◌, length, Some, refl, ap, sym, subst}
use Rattle.build_events.specs.CoreState.{BuildState}
use Rattle.build_events.specs.Ranges.{next_page}
use Rattle.table_scan.specs.contracts.table_scan.TableScan.{the_view}
use Rattle.build_events.proofs.NextPages.{next_is, next_none}
use Rattle.table_scan.proofs.table_scan.TableScan.next_page.Goals as goal

pub returns-then-done : goal.returns-then-done
returns-then-done c =
    let there : c.args.range < length c.self.inside.ranges.ends = subst (λ (b : BuildState). c.args.range < length b.ends) (sym c.self.view_is) c.requires in
    sym (next_none (the_view c.self.inside) c.self.inside.ranges c.laws.ensures.kept refl c.self.invariant.0.passed c.args.range there (sym c.done.ensures ∙ c.if-done.true))
    ∙ ap (λ (b : BuildState). next_page b c.args.range) c.self.view_is

pub returns : goal.returns
returns c =
    let there : c.args.range < length c.self.inside.ranges.ends = subst (λ (b : BuildState). c.args.range < length b.ends) (sym c.self.view_is) c.requires in
    ap (λ n. Some n) c.cur.ensures
    ∙ sym (next_is (the_view c.self.inside) c.self.inside.ranges c.laws.ensures.kept refl c.self.invariant.0.passed c.args.range there (sym c.done.ensures ∙ c.if-done.false))
    ∙ ap (λ (b : BuildState). next_page b c.args.range) c.self.view_is
