use Rattle.std.proofs.Common.{◌∙◌, ◌∷◌, arith, subst}
use Rattle.std.specs.Prelude.{Option}
use Rattle.std.proofs.lemmas.List.Sorted.{length_permutation, IsPermutation-pop_more}
use Rattle.keybytes.specs.declared.pair.Pair.{Pair}
use Rattle.run_spool.specs.Spools.{all_pairs}
use Rattle.run_merge.specs.Merging.{all_runs, Gives}
use Rattle.run_merge.proofs.InOrder.{before_more, order_more}
use Rattle.run_merge.proofs.merged.Merged.rest.Goals as goal

pub loop-pairs-smaller : goal.loop-pairs-smaller
loop-pairs-smaller g c =
    let old = all_runs c.loop-pairs.self.runs in
    let new = all_runs c.next.new.self.runs in
    let G : Option Pair → Type 0 = λ o. Gives old o new in
    let got = subst G c.in-Some.is c.in_ok-pair.ensures.given in
    omega (arith, length_permutation (all_pairs old) (c.in-Some.pair ∷ all_pairs new) got.1)

pub loop-pairs-preserved : goal.loop-pairs-preserved
loop-pairs-preserved g c =
    let old = all_runs c.loop-pairs.self.runs in
    let new = all_runs c.next.new.self.runs in
    let done = c.loop-pairs.pairs.items in
    let x = c.in-Some.pair in
    let G : Option Pair → Type 0 = λ o. Gives old o new in
    let got = subst G c.in-Some.is c.in_ok-pair.ensures.given in
    let was = c.loop-pairs.invariant in
    rw c.in_ok-push.ensures.items record {
      order = order_more done (all_pairs old) (all_pairs new) x got.1 was.before was.order;
      before = before_more done (all_pairs old) (all_pairs new) x got.1 got.0 was.before;
      all = IsPermutation-pop_more (all_pairs (all_runs c.args.self.now.runs)) done (all_pairs old) (all_pairs new) x was.all got.1;
      open_runs = c.in_ok-pair.ensures.open_runs ∙ was.open_runs;
      stakes = c.in_ok-pair.ensures.stakes ∙ was.stakes;
      ways = c.in_ok-pair.ensures.ways ∙ was.ways;
      grows = omega (arith, c.in_ok-pair.ensures.grows, was.grows);
    }
