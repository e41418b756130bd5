use Rattle.std.proofs.Common.{◌≡◌, ◌<◌, ℕ, List, Option, ap, ◌∙◌, subst, arith}
use Rattle.std.proofs.lemmas.Result.{err_from_is_err_and}
use Rattle.build_events.specs.CoreState.{CoreState}
use Rattle.kept_table.specs.CatchingUp.{left_over, unfed_of}
use Rattle.kept_table.specs.Progresses.{index_count}
use Rattle.kept_table.proofs.Prepared.{loaded_of}
use Rattle.kept_table.proofs.Rounds.{IsLeast, all_turns, few_left, next_turn, no_turns, stops_each}
use Rattle.kept_table.proofs.Shapes.{keeps_loaded}
use Rattle.kept_table.proofs.catching_up.catch_up.Goals as goal

-- what was read of the core
least_of :
    (most : ℕ) (waited : Option (List ℕ)) (index unfed least : ℕ) (s core : CoreState) → core ≡ s → unfed ≡ unfed_of core index
    → least ≡ left_over most waited index unfed → IsLeast most waited index s least
least_of most waited index unfed least s core same is told =
    told ∙ ap (λ (n : ℕ). left_over most waited index n) (is ∙ ap (λ (c : CoreState). unfed_of c index) same)

pub loop-index-init : goal.loop-index-init
loop-index-init g c = no_turns c.args.most c.args.waited.now c.args.counted.now c.requires

pub catch_up_one-requires-clause-loaded : goal.catch_up_one-requires-clause-loaded
catch_up_one-requires-clause-loaded g c =
    let count = subst (λ (s : CoreState). c.indexes_of-index-end.result ≡ index_count s.live.build) c.core.ensures c.indexes_of-index-end.ensures in
    let less = subst (λ (n : ℕ). c.loop-index.index < n) count c.loop-index-test.true in
    keeps_loaded c.args.counted.now c.loop-index.counted c.loop-index.index c.loop-index.invariant.works
    (loaded_of c.args.counted.now c.loop-index.index c.requires c.laws.ensures less)

pub loop-index-preserved : goal.loop-index-preserved
loop-index-preserved g c =
    next_turn c.args.most c.args.waited.now c.loop-index.index c.to_leave-least.result c.args.counted.now c.loop-index.counted
    c.catch_up_one.new.counted c.loop-index.invariant
    (least_of c.args.most c.args.waited.now c.loop-index.index c.left_of.result c.to_leave-least.result c.loop-index.counted _
    c.core-in-loop-index.ensures c.left_of.ensures c.to_leave-least.ensures) c.in_ok-catch_up_one.ensures.done

pub catch_up_one-requires-clause-some : goal.catch_up_one-requires-clause-some
catch_up_one-requires-clause-some g c =
    let is = least_of c.args.most c.args.waited.now c.loop-index.index c.left_of.result c.to_leave-least.result c.loop-index.counted _
    c.core-in-loop-index.ensures c.left_of.ensures c.to_leave-least.ensures in
    omega (arith, is, few_left c.args.most c.args.waited.now c.loop-index.index (unfed_of c.loop-index.counted c.loop-index.index))

pub returns-in_err-catch_up_one-clause-refused : goal.returns-in_err-catch_up_one-clause-refused
returns-in_err-catch_up_one-clause-refused g c =
    let count = subst (λ (s : CoreState). c.indexes_of-index-end.result ≡ index_count s.live.build) c.core.ensures c.indexes_of-index-end.ensures in
    let less = subst (λ (n : ℕ). c.loop-index.index < n) count c.loop-index-test.true in
    let told = err_from_is_err_and c.from_residual.result c.from_residual.ensures.1 in
    let is = least_of c.args.most c.args.waited.now c.loop-index.index c.left_of.result c.to_leave-least.result c.loop-index.counted _
    c.core-in-loop-index.ensures c.left_of.ensures c.to_leave-least.ensures in
    rw (told.1, told.2) (stops_each c.args.most c.args.waited.now c.loop-index.index c.to_leave-least.result c.args.counted.now c.loop-index.counted
    c.catch_up_one.new.counted _ c.loop-index.invariant less is c.in_err-catch_up_one.ensures.refused)

pub returns-clause-done : goal.returns-clause-done
returns-clause-done g c =
    let count = subst (λ (s : CoreState). c.indexes_of-index-end.result ≡ index_count s.live.build) c.core.ensures c.indexes_of-index-end.ensures in
    all_turns c.args.most c.args.waited.now c.loop-index.index c.args.counted.now c.loop-index.counted c.loop-index.invariant
    (omega (arith, count, c.loop-index-test.false, c.loop-index.auto.index-end))
