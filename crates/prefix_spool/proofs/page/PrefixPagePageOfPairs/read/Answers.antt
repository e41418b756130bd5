use Rattle.std.proofs.Common.{ap, length, drop, ◌+◌, arith}
use Rattle.run_spool.specs.Pages.{PageValue}
use Rattle.prefix_spool.specs.PrefixPages.{written_at}
use Rattle.prefix_spool.proofs.Marked.{Found, left_count, count_small, found, pair_read}
use Rattle.prefix_spool.proofs.page.PrefixPagePageOfPairs.read.Goals as goal
use Rattle.prefix_spool.proofs.page.PrefixPagePageOfPairs.read.Goals.{In-Ok}

pub overflow_add-place : goal.overflow_add-place
overflow_add-place c =
    let view = ap (λ (p : PageValue). length p.pairs) c.self.view_is in
    let count = left_count c.self.inside.page.bytes.value c.self.inside.marks in
    let small = count_small c.self.invariant in
    omega (arith, c.requires)

pub seek-requires-clause-there : goal.seek-requires-clause-there
seek-requires-clause-there c =
    let view = ap (λ (p : PageValue). length p.pairs) c.self.view_is in
    let count = left_count c.self.inside.page.bytes.value c.self.inside.marks in
    omega (arith, c.requires)

here :
    (c : In-Ok)
    → Found c.self.inside.page.bytes.value c.deref-bytes.result.now c.self.inside.marks (c.self.inside.marks.freed + c.args.n) c.in-Ok.offset c.seek.new.before
here c =
    let view = ap (λ (p : PageValue). length p.pairs) c.self.view_is in
    let count = left_count c.self.inside.page.bytes.value c.self.inside.marks in
    found c.self.invariant (omega (arith, c.requires)) c.deref-bytes.ensures c.in-Ok.ensures.found

pub read_pair-requires-clause-within : goal.read_pair-requires-clause-within
read_pair-requires-clause-within c = (here (goal.at.read_pair-requires-clause-within c).In-Ok).within

pub read_pair-requires-clause-short : goal.read_pair-requires-clause-short
read_pair-requires-clause-short c = (here (goal.at.read_pair-requires-clause-short c).In-Ok).short

pub read_pair-requires-clause-there : goal.read_pair-requires-clause-there
read_pair-requires-clause-there c = (here (goal.at.read_pair-requires-clause-there c).In-Ok).there

pub invariant_of-self-2 : goal.invariant_of-self-2
invariant_of-self-2 c = (here (goal.at.invariant_of-self-2 c).In-Ok).page

pub returns-clause-pair : goal.returns-clause-pair
returns-clause-pair c =
    let f = here (goal.at.returns-clause-pair c).In-Ok in
    let e = ap (λ (p : PageValue). p.pairs) c.self.view_is in
    let all = written_at c.self.inside.page.bytes.value c.self.inside.marks in
    let bytes = drop c.in-Ok.offset c.deref-bytes.result.now in
    rw (← e)
    (pair_read all c.self.inside.marks.freed c.args.n c.seek.new.before bytes c.read_pair.new.key c.read_pair.result f.pair
    c.read_pair.ensures.rid c.read_pair.ensures.key)
