use Rattle.std.proofs.Common.{ap, drop, arith}
use Rattle.run_spool.specs.Pages.{PageValue}
use Rattle.run_spool.specs.PlainPages.{pairs_at}
use Rattle.run_spool.proofs.Marked.{Found, counted, found, pair_read}
use Rattle.run_spool.proofs.plain_page.PlainPagePageOfPairs.read.Goals as goal
use Rattle.run_spool.proofs.plain_page.PlainPagePageOfPairs.read.Goals.{After-seek-offset}

pub seek-offset-requires-clause-there : goal.seek-offset-requires-clause-there
seek-offset-requires-clause-there c =
    let count = counted c.self.inside.page.bytes.value c.self.inside.marks c.self.view_is in
    omega (arith, c.requires, count)

here :
    (c : After-seek-offset)
    → Found c.self.inside.page.bytes.value c.deref-bytes.result.now c.self.inside.marks c.args.n c.seek-offset.result
here c =
    let count = counted c.self.inside.page.bytes.value c.self.inside.marks c.self.view_is in
    found c.self.invariant (omega (arith, c.requires, count)) c.deref-bytes.ensures c.seek-offset.ensures

pub read_pair-requires : goal.read_pair-requires
read_pair-requires c = let f = here (goal.at.read_pair-requires c).After-seek-offset in (f.within, f.short)

pub invariant_of-self : goal.invariant_of-self
invariant_of-self c = (here (goal.at.invariant_of-self c).After-seek-offset).page

pub returns-clause-pair : goal.returns-clause-pair
returns-clause-pair c =
    let f = here (goal.at.returns-clause-pair c).After-seek-offset in
    let e = ap (λ (p : PageValue). p.pairs) c.self.view_is in
    let pairs = pairs_at c.self.inside.page.bytes.value c.self.inside.marks in
    let bytes = drop c.seek-offset.result c.deref-bytes.result.now in
    rw (← e) (pair_read pairs c.args.n bytes c.read_pair.new.key c.read_pair.result f.pair c.read_pair.ensures.rid c.read_pair.ensures.key)
