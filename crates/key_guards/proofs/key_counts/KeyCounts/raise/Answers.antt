-- What is written is the count.
use Rattle.std.proofs.Common.{◌+◌, ap, subst}
use Rattle.key_guards.specs.KeyCounts.{CountsOnly}
use Rattle.key_guards.proofs.Counting.{written_count, count_there}
use Rattle.key_guards.proofs.key_counts.KeyCounts.raise.Goals as goal

pub returns-in-Some : goal.returns-in-Some
returns-in-Some c =
    subst (CountsOnly c.args.self.now.counts.entries (c.get_mut.follows.lender (c.in-Some.count.now + 1)).entries c.args.key.now)
    (ap (λ n. n + 1) (count_there c.args.self.now.counts c.args.key.now c.in-Some.count.now c.in-Some.ensures.value))
    (written_count c.args.self.now.counts (c.get_mut.follows.lender (c.in-Some.count.now + 1)) c.args.key.now c.in-Some.count.now (c.in-Some.count.now + 1)
    c.in-Some.ensures.value (c.get_mut.follows.holds (c.in-Some.count.now + 1)))
