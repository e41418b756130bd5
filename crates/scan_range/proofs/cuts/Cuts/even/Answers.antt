use Rattle.std.proofs.Common.{◌≡◌, ℕ, List, ◌+◌, ◌*◌, ◌/◌, ◌∙◌, ap, arith, sym, ◌++◌, ◌∷◌, [], length, length-append}
use Rattle.std.proofs.lemmas.List.FromFn.{map-range_with_len_more}
use Rattle.scan_range.proofs.EvenEnds.{even_are_cuts, even_fit}
use Rattle.scan_range.proofs.cuts.Cuts.even.Goals as goal

pub loop-range-preserved : goal.loop-range-preserved
loop-range-preserved c =
    let pushed = c.push_reserved.ensures.items in
    record {
      made = pushed
          ∙ ap (λ (ends : List ℕ). ends ++ c.args.pages * (c.loop-range.range + 1) / c.args.ranges ∷ []) c.loop-range.invariant.made
          ∙ sym (map-range_with_len_more (λ range. c.args.pages * (range + 1) / c.args.ranges) 0 c.loop-range.range c.loop-range.range (omega arith));
      count = omega (arith, ap length pushed, length-append {A = ℕ});
      room = omega (arith, c.push_reserved.ensures.capacity);
    }

pub invariant_of-result : goal.invariant_of-result
invariant_of-result c =
    let last : c.loop-range.range ≡ c.args.ranges = omega arith in
    let fit = even_fit c.args.ranges c.in_ok-check_even.ensures in
    rw c.loop-range.invariant.made (rw last (even_are_cuts c.args.pages c.args.ranges fit.0 fit.1))
