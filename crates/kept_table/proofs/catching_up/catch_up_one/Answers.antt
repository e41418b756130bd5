use Rattle.std.proofs.Common.{◌≡◌, ℕ, ◌-◌, ◌∙◌, ap, min}
use Rattle.std.proofs.lemmas.Result.{err_from_is_err_and}
use Rattle.build_events.specs.CoreState.{CoreState}
use Rattle.kept_table.specs.CatchingUp.{unfed_of}
use Rattle.kept_table.proofs.Rounds.{IsMore, loaded_moved, moves_round, moves_to, no_moves, round_less, stops_moving}
use Rattle.kept_table.proofs.catching_up.catch_up_one.Goals as goal

-- what was read of the core, less what is to be left
more_is :
    (index least left less more : ℕ) (s core : CoreState) → core ≡ s → left ≡ unfed_of core index → less ≡ left - least → more ≡ min less 256
    → IsMore index least s more
more_is index least left less more s core same is lessened few =
    few ∙ ap (λ (n : ℕ). min n 256) (lessened ∙ ap (λ (n : ℕ). n - least) (is ∙ ap (λ (c : CoreState). unfed_of c index) same))

pub loop-init : goal.loop-init
loop-init g c = no_moves c.args.index c.args.least c.args.counted.now c.requires.some

pub round-requires : goal.round-requires
round-requires g c =
    loaded_moved c.args.index c.args.least c.args.counted.now c.loop.counted c.loop.invariant c.requires.loaded

pub loop-preserved : goal.loop-preserved
loop-preserved g c =
    let is = more_is c.args.index c.args.least c.left_of.result c.saturating_sub.result c.min-more.result c.loop.counted _ c.core.ensures
    c.left_of.ensures c.saturating_sub.ensures c.min-more.ensures in
    moves_round c.args.index c.args.least c.min-more.result c.in_ok-round.field-0 c.args.counted.now c.loop.counted c.round.new.counted
    c.loop.invariant is c.in_ok-round.ensures.done

pub loop-smaller : goal.loop-smaller
loop-smaller g c =
    round_less c.args.index c.min-more.result c.in_ok-round.field-0 c.loop.counted c.round.new.counted c.in_ok-round.ensures.done
    c.if-branch-lt-RING_ENTRIES.false

pub returns-then-branch-lt-RING_ENTRIES-clause-done : goal.returns-then-branch-lt-RING_ENTRIES-clause-done
returns-then-branch-lt-RING_ENTRIES-clause-done g c =
    let is = more_is c.args.index c.args.least c.left_of.result c.saturating_sub.result c.min-more.result c.loop.counted _ c.core.ensures
    c.left_of.ensures c.saturating_sub.ensures c.min-more.ensures in
    moves_to c.args.index c.args.least c.min-more.result c.in_ok-round.field-0 c.args.counted.now c.loop.counted c.round.new.counted
    c.loop.invariant is c.in_ok-round.ensures.done c.if-branch-lt-RING_ENTRIES.true

pub returns-in_err-round-clause-refused : goal.returns-in_err-round-clause-refused
returns-in_err-round-clause-refused g c =
    let told = err_from_is_err_and c.from_residual.result c.from_residual.ensures.1 in
    let is = more_is c.args.index c.args.least c.left_of.result c.saturating_sub.result c.min-more.result c.loop.counted _ c.core.ensures
    c.left_of.ensures c.saturating_sub.ensures c.min-more.ensures in
    rw (told.1, told.2) (stops_moving c.args.index c.args.least c.min-more.result c.args.counted.now c.loop.counted c.round.new.counted _
    c.loop.invariant is c.in_err-round.ensures.refused)
