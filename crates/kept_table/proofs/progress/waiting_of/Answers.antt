use Rattle.std.proofs.Common.{◌≡◌, ℕ, refl, ap, ◌∙◌, arith}
use Rattle.std.specs.Prelude.{min}
use Rattle.kept_table.specs.Progresses.{index_count, unfed_below}
use Rattle.kept_table.proofs.Unfed.{unfed_more}
use Rattle.kept_table.proofs.progress.waiting_of.Goals as goal

pub loop-index-init : goal.loop-index-init
loop-index-init g c = refl

pub loop-index-preserved : goal.loop-index-preserved
loop-index-preserved g c =
    let log = c.args.core.now.live.heap.log in
    let build = c.args.core.now.live.build in
    omega (arith, unfed_more log build c.loop-index.index, c.saturating_add-waiting.ensures, c.loop-index.invariant, c.left_of.ensures)

pub returns : goal.returns
returns g c =
    let build = c.args.core.now.live.build in
    let all : c.loop-index.index ≡ index_count build = omega (arith, c.loop-index-test.false, c.loop-index.auto.index-end, c.requires) in
    c.loop-index.invariant ∙ ap (λ (n : ℕ). min (unfed_below c.args.core.now.live.heap.log build n) 18446744073709551615) all
