use Rattle.std.proofs.Common.{◌∙◌, arith, sym}
use Rattle.scan_range.proofs.Going.{all_done-each, not_done-one}
use Rattle.scan_range.proofs.ranges.Ranges.all_done.Goals as goal

pub returns-then-not-done : goal.returns-then-not-done
returns-then-not-done c =
    sym (not_done-one c.args.self.now c.loop-range.range (omega arith) (sym c.done.ensures ∙ c.if-not-done.true))

pub returns : goal.returns
returns c = sym (all_done-each c.args.self.now (λ range l. c.loop-range.invariant range (omega (arith, c.len-range-end.ensures))))
