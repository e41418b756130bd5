use Rattle.std.proofs.Common.{◌≡◌, ℕ, Option, length, ap, ◌∙◌, sym, subst, arith}
use Rattle.live_lemmas.specs.Builds.{core_state}
use Rattle.build_events.specs.CoreState.{BuildState, CoreState}
use Rattle.build_events.specs.BuildSteps.{OnBuild}
use Rattle.build_events.specs.Workers.{all_unapplied}
use Rattle.live_lemmas.proofs.LeftOver.{all_left, indexes_many, left_before}
use Rattle.live_table.proofs.live.Live.unapplied.Goals as goal

pub returns : goal.returns
returns g c =
    let s : CoreState = core_state c.args.self.now c.args.building.now in
    let b : BuildState = c.in-Some.build.now in
    let many = indexes_many c.args.self.now c.args.building.now b c.in-Some.ensures.build c.requires.works in
    let all : c.loop-index.index ≡ length b.specs = omega (arith, c.loop-index-test.false, c.loop-index.auto.index-end, c.indexes-index-end.ensures) in
    subst (λ (o : Option BuildState). OnBuild o (λ x. c.loop-index.sum ≡ all_unapplied x s.live.heap.log x.specs s.work.indexes)) (sym c.in-Some.ensures.build)
    (c.loop-index.invariant.sum ∙ ap (λ (n : ℕ). left_before n s) all ∙ all_left s b c.in-Some.ensures.build many)
