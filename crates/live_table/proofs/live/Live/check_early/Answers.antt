use Rattle.std.proofs.Common.{rules, ◌≡◌, ◌∙◌, None, sym}
use Rattle.std.proofs.lemmas.Bool.{false≢true}
use Rattle.build_events.specs.CoreState.{BuildState}
use Rattle.build_events.specs.Ranges.{open_range}
use Rattle.live_lemmas.proofs.EarlyCauses.{no_cause, not_loaded}
use Rattle.live_table.proofs.live.Live.check_early.Goals as goal

pub returns-then-not-in_order-clause-cause : goal.returns-then-not-in_order-clause-cause
returns-then-not-in_order-clause-cause g c =
    let b : BuildState = c.in-Some-Some.build.now in
    let all : open_range b ≡ None = search rules in
    no_cause c.args.in_order c.args.self.now c.args.building.now b c.in-Some-Some.work.now c.in-Some-Some.ensures.build c.in-Some-Some.ensures' c.in_ok-check.ensures all
    (λ asked. absurd (false≢true (sym c.if-not-in_order.true ∙ asked)))

pub returns-in-Some-first_unloaded-clause-cause : goal.returns-in-Some-first_unloaded-clause-cause
returns-in-Some-first_unloaded-clause-cause g c =
    let b : BuildState = c.in-Some-Some.build.now in
    let all : open_range b ≡ None = search rules in
    not_loaded c.args.in_order c.args.self.now c.args.building.now b c.in-Some-Some.work.now c.in-Some-Some.ensures.build c.in-Some-Some.ensures' c.in_ok-check.ensures all
    c.in-Some-first_unloaded.index c.if-not-in_order.false c.in-Some-first_unloaded.ensures

pub returns-clause-cause : goal.returns-clause-cause
returns-clause-cause g c =
    let b : BuildState = c.in-Some-Some.build.now in
    let all : open_range b ≡ None = search rules in
    no_cause c.args.in_order c.args.self.now c.args.building.now b c.in-Some-Some.work.now c.in-Some-Some.ensures.build c.in-Some-Some.ensures' c.in_ok-check.ensures all
    (λ asked. c.in_default-first_unloaded.ensures)
