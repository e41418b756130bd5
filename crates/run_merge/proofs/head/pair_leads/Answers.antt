use Rattle.std.proofs.Common.{◌≡◌, false, sym, ap, ◌∙◌}
use Rattle.std.specs.Ordering.{is_lt}
use Rattle.std.specs.Prelude.{Some}
use Rattle.run_merge.specs.Leading.{is_ahead}
use Rattle.run_merge.proofs.Order.{before_order}
use Rattle.run_merge.proofs.head.pair_leads.Goals as goal

pub returns-then-is_lt-clause-follows : goal.returns-then-is_lt-clause-follows
returns-then-is_lt-clause-follows c = λ _.
    let p = c.in-Some-Some.pair in
    let q = c.in-Some-Some.other in
    let behind : is_ahead (Some p) (Some q) ≡ false = before_order.one_way q p (ap is_lt (sym c.cmp.ensures) ∙ (sym c.is_lt.ensures ∙ c.if-is_lt.true)) in
    rw (c.in-Some-Some.is-0, c.in-Some-Some.is-1) behind
