use Rattle.std.proofs.Common.{◌≡◌, true, false, sym, rules, arith, below_more}
use Rattle.std.specs.Prelude.{is_some}
use Rattle.build_events.specs.Ranges.{next_page}
use Rattle.build_events.proofs.NextPages.{not_some, open_at, none_open}
use Rattle.table_scan.proofs.table_scan.TableScan.first_open.Goals as goal

pub returns-then-is_some : goal.returns-then-is_some
returns-then-is_some c =
    let some : is_some (next_page c.args.self.now c.loop-range.range) ≡ true = search rules in
    sym (open_at c.args.self.now c.loop-range.range (omega (arith, c.ranges-range-end.ensures)) c.loop-range.invariant some)

pub loop-range-preserved : goal.loop-range-preserved
loop-range-preserved c =
    let none : is_some (next_page c.args.self.now c.loop-range.range) ≡ false = search rules in
    below_more _ _ c.loop-range.invariant (not_some (next_page c.args.self.now c.loop-range.range) none)

pub returns : goal.returns
returns c = sym (none_open c.args.self.now (λ k less. c.loop-range.invariant k (omega (arith, c.ranges-range-end.ensures))))
