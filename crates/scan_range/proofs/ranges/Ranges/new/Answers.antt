use Rattle.std.proofs.Common.{ℕ, ap, arith, sym, length, length-append}
use Rattle.std.proofs.lemmas.List.FromFn.{map-range_with_len_more}
use Rattle.scan_range.specs.Cuts.{range_start}
use Rattle.scan_range.proofs.Going.{made-AreRanges, start_after}
use Rattle.scan_range.proofs.ranges.Ranges.new.Goals as goal

pub loop-end-preserved : goal.loop-end-preserved
loop-end-preserved c =
    let pushed = c.push_reserved.ensures.items in
    let more = map-range_with_len_more (range_start c.ends-ends.result.now) 0 c.loop-end.end-index c.loop-end.end-index (omega arith) in
    record {
      made = cc;
      count = omega (arith, ap length pushed, length-append {A = ℕ});
      room = omega (arith, c.push_reserved.ensures.capacity);
      start = sym (start_after c.ends-ends.result.now c.loop-end.end-index);
    }

pub invariant_of-result : goal.invariant_of-result
invariant_of-result c =
    made-AreRanges c.args.cuts _ _ c.loop-end.end-index c.ends-ends.ensures.cuts c.ends-ends.ensures.ends (omega arith) c.loop-end.invariant.made
