use Rattle.std.proofs.Common.{◌<◌, ◌∙◌, ap, subst}
use Rattle.live_lemmas.specs.Builds.{LiveValue, core_state}
use Rattle.building.specs.BuildingValue.{BuildingValue}
use Rattle.live_lemmas.specs.CatchingUp.{IndexIsFurther, left_at}
use Rattle.build_events.specs.CoreState.{CoreState}
use Rattle.live_lemmas.proofs.ApplyCauses.{applies_next}
use Rattle.live_lemmas.proofs.IndexFurther.{further_from, applies_on, fed_further, applied_further, some_further, fewer_left, runs_on, index_on}
use Rattle.live_lemmas.proofs.Feeding.{state_side_looked, works_side_looked}
use Rattle.live_lemmas.proofs.SentNext.{looked_on_side, sends_twice}
use Rattle.live_table.proofs.live.Live.catch_up_one.Goals as goal

pub loop-self-init : goal.loop-self-init
loop-self-init g c =
    let live : LiveValue = c.args.self.now in
    let building : BuildingValue = c.args.building.now in
    let looked = c.look_at_side in
    let state = state_side_looked c.args.index live looked.new.self building looked.new.building looked.ensures.looked in
    let next = applies_next c.args.index live looked.new.self building looked.new.building looked.result 256 looked.ensures.follows c.requires.works c.requires.runs
    looked.ensures.looked looked.ensures.sees looked.ensures.fed in
    record {
      further = subst (λ (s : CoreState). IndexIsFurther c.args.index s (core_state looked.new.self looked.new.building)) state
          (further_from c.args.index looked.result looked.new.self looked.new.building next);
      works = works_side_looked c.args.index live looked.new.self building looked.new.building looked.ensures.looked c.requires.works;
      sends = looked_on_side c.args.index live looked.new.self building looked.new.building next.build looked.ensures.looked next.run.build_is;
      pages = ap (λ (l : LiveValue). l.pages) looked.ensures.looked.puts;
    }

pub unapplied_of-requires-clause-works : goal.unapplied_of-requires-clause-works
unapplied_of-requires-clause-works g c = c.loop-self.invariant.works

pub unapplied_of-requires-clause-there : goal.unapplied_of-requires-clause-there
unapplied_of-requires-clause-there g c =
    index_on c.args.index (core_state c.args.self.now c.args.building.now) (core_state c.loop-self.self c.loop-self.building) c.loop-self.invariant.further

pub unapplied_of-requires-clause-runs : goal.unapplied_of-requires-clause-runs
unapplied_of-requires-clause-runs g c =
    runs_on c.args.index (core_state c.args.self.now c.args.building.now) (core_state c.loop-self.self c.loop-self.building) c.loop-self.invariant.further

pub feed_beside-requires : goal.feed_beside-requires
feed_beside-requires g c = c.loop-self.invariant.works

pub apply-requires-clause-runs : goal.apply-requires-clause-runs
apply-requires-clause-runs g c =
    let start = core_state c.args.self.now c.args.building.now in
    let fed = core_state c.feed_beside.new.self c.feed_beside.new.building in
    let further = fed_further c.args.index start (core_state c.loop-self.self c.loop-self.building) c.loop-self.invariant.further fed 256 c.in-Ok._moved c.in-Ok.ensures.fed in
    applies_on c.args.index start fed further 256 ∙ c.requires.runs

pub loop-self-smaller : goal.loop-self-smaller
loop-self-smaller g c =
    let mid = core_state c.loop-self.self c.loop-self.building in
    let some : 0 < left_at c.args.index mid = subst (λ n. 0 < n) c.unapplied_of.ensures.left c.loop-self-test.true in
    fewer_left c.args.index (core_state c.args.self.now c.args.building.now) mid (core_state c.feed_beside.new.self c.feed_beside.new.building)
    (core_state c.apply.new.self c.apply.new.building) c.in-Ok._moved c.in_ok-apply.field-0 c.loop-self.invariant.further some c.in-Ok.ensures.fed
    c.in_ok-apply.ensures.applied

pub loop-self-preserved : goal.loop-self-preserved
loop-self-preserved g c =
    let start = core_state c.args.self.now c.args.building.now in
    let fed = core_state c.feed_beside.new.self c.feed_beside.new.building in
    let further = fed_further c.args.index start (core_state c.loop-self.self c.loop-self.building) c.loop-self.invariant.further fed 256 c.in-Ok._moved c.in-Ok.ensures.fed in
    record {
      further = applied_further c.args.index start fed further (core_state c.apply.new.self c.apply.new.building) 256 c.in_ok-apply.field-0 c.in_ok-apply.ensures.applied;
      works = c.in_ok-apply.ensures.works;
      sends = sends_twice c.args.self.now c.feed_beside.new.self c.apply.new.self
          (sends_twice c.args.self.now c.loop-self.self c.feed_beside.new.self c.loop-self.invariant.sends c.in-Ok.ensures.sends) c.in_ok-apply.ensures.sends;
      pages = c.in_ok-apply.ensures.pages ∙ c.in-Ok.ensures.pages ∙ c.loop-self.invariant.pages;
    }

pub returns-in_err-apply-clause-further : goal.returns-in_err-apply-clause-further
returns-in_err-apply-clause-further g c =
    let start = core_state c.args.self.now c.args.building.now in
    let fed = core_state c.feed_beside.new.self c.feed_beside.new.building in
    let further = fed_further c.args.index start (core_state c.loop-self.self c.loop-self.building) c.loop-self.invariant.further fed 256 c.in-Ok._moved c.in-Ok.ensures.fed in
    some_further c.args.index start fed further (core_state c.apply.new.self c.apply.new.building) 256 0 c.in_err-apply.ensures.some

pub returns-clause-further : goal.returns-clause-further
returns-clause-further g c = c.loop-self.invariant.further

pub returns-clause-works : goal.returns-clause-works
returns-clause-works g c = c.loop-self.invariant.works

pub returns-in_err-apply-clause-pages : goal.returns-in_err-apply-clause-pages
returns-in_err-apply-clause-pages g c = c.in_err-apply.ensures.pages ∙ c.in-Ok.ensures.pages ∙ c.loop-self.invariant.pages

pub returns-clause-pages : goal.returns-clause-pages
returns-clause-pages g c = c.loop-self.invariant.pages

pub returns-in_err-apply-clause-sends : goal.returns-in_err-apply-clause-sends
returns-in_err-apply-clause-sends g c =
    sends_twice c.args.self.now c.feed_beside.new.self c.apply.new.self
    (sends_twice c.args.self.now c.loop-self.self c.feed_beside.new.self c.loop-self.invariant.sends c.in-Ok.ensures.sends) c.in_err-apply.ensures.sends

pub returns-clause-sends : goal.returns-clause-sends
returns-clause-sends g c = c.loop-self.invariant.sends
