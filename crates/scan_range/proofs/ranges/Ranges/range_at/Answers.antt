use Rattle.std.proofs.Common.{ℕ, rules, leb, ap, arith}
use Rattle.std.proofs.lemmas.List.Quantifiers.{position-Some}
use Rattle.std.proofs.lemmas.List.Sorted.{IsPartitionPoint-from_clause, IsPartitionedBy-leb}
use Rattle.std.specs.Prelude.{nat_lt}
use Rattle.scan_range.specs.Ranges.{RangesValue}
use Rattle.scan_range.proofs.Covered.{range_of-search, cuts_rise}
use Rattle.scan_range.proofs.ranges.Ranges.range_at.Goals as goal

pub returns-clause-value : goal.returns-clause-value
returns-clause-value c =
    let cuts = c.self.inside.cuts in
    let rise = cuts_rise cuts.pages cuts.ends c.ends.result.now c.ends.ensures.cuts c.ends.ensures.ends in
    let parted = IsPartitionedBy-leb (λ (end : ℕ). end) c.ends.result.now c.args.page rise in
    let point = IsPartitionPoint-from_clause (λ (end : ℕ). leb end c.args.page) _ _ c.partition_point.ensures.partitioned parted (λ a r q k. search rules) in
    let same = ap (λ (ranges : RangesValue). ranges.pages) c.self.view_is in
    rw (← c.self.view_is)
    (range_of-search cuts.pages cuts.ends c.ends.result.now c.args.page c.partition_point.result c.ends.ensures.cuts c.ends.ensures.ends
    (omega arith) c.partition_point.ensures.bound point)

pub returns-clause-there : goal.returns-clause-there
returns-clause-there c = (position-Some (nat_lt c.args.page) c.args.self.now.ends c.partition_point.result 0 (returns-clause-value c)).0
