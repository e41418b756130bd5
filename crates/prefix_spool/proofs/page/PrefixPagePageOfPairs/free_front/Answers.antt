use Rattle.std.proofs.Common.{ap, length, arith}
use Rattle.run_spool.specs.Pages.{PageValue}
use Rattle.prefix_spool.proofs.Marked.{left_count, count_small, freed}
use Rattle.prefix_spool.proofs.page.PrefixPagePageOfPairs.free_front.Goals as goal

pub overflow_add-self : goal.overflow_add-self
overflow_add-self c =
    let view = ap (λ (p : PageValue). length p.pairs) c.self.view_is in
    let count = left_count c.self.inside.page.bytes.value c.self.inside.marks in
    let small = count_small c.self.invariant in
    omega (arith, c.requires, count, view, small)

pub invariant_of-self : goal.invariant_of-self
invariant_of-self c =
    let view = ap (λ (p : PageValue). length p.pairs) c.self.view_is in
    freed c.args.n (omega (arith, c.requires, view)) c.self.invariant
