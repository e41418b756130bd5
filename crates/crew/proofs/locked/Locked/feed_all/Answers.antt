use Rattle.std.proofs.Common.{◌≡◌, ◌∙◌, ◌<◌, ◌≤◌, List, length, Option, Some, ap, subst, sym, arith}
use mathlib.Core.List.{IsPrefix}
use Rattle.heap_log.specs.declared.record.LogRec.{LogRec}
use Rattle.ready_indexes.specs.Indexes.{ReadyValue}
use Rattle.build_events.specs.BuildSteps.{OnBuild}
use Rattle.live_lemmas.specs.Builds.{StandsBeside, core_state}
use Rattle.live_lemmas.specs.Settling.{IsSettled, waiting_in}
use Rattle.std.specs.Prelude.{IfSome}
use Rattle.crew.specs.Credits.{CreditIsKept, LockedValue, TakesMore, indexes_of_build, live_in}
use Rattle.crew.specs.declared.locked.credit.Credit.{Credit}
use Rattle.crew.specs.MadeReady.{HasMadeReady}
use Rattle.crew.proofs.Credits.{countable, enough_fed, fed_keeps, few_in_build, takes_more}
use Rattle.crew.proofs.Following.{fed_goes_on, fed_indexes, fed_log, fed_ready, one_each}
use Rattle.crew.proofs.locked.Locked.feed_all.Goals as goal

pub feed_all-fed-requires-clause-batches : goal.feed_all-fed-requires-clause-batches
feed_all-fed-requires-clause-batches g c =
    let live = c.self.inside.live in
    let settled = subst (λ (l : LockedValue). IsSettled (core_state (live_in l) c.args.building.now)) (sym c.self.view_is) c.requires.settled.settled in
    let many = subst (λ (l : LockedValue). length c.args.batches.items ≡ indexes_of_build l.state.build) (sym c.self.view_is) c.requires.batches in
    one_each live.state.build (length c.args.batches.items) _ settled many

pub after_taking-after-requires-clause-taken : goal.after_taking-after-requires-clause-taken
after_taking-after-requires-clause-taken g c =
    let live = c.self.inside.live in
    let kept = subst (CreditIsKept live.state) c.in-Some.is c.self.invariant.3 in
    let few = subst (λ (l : LockedValue). OnBuild l.state.build (λ b. length b.specs ≤ 8)) (sym c.self.view_is) c.requires.settled.few in
    let many = subst (λ (l : LockedValue). 1024 < waiting_in l.state) (sym c.self.view_is) c.requires.many in
    countable live.state c.in-Some.credit c.feed_all-fed.result kept (few_in_build live.state.build few) many (omega (arith, c.feed_all-fed.ensures.left))

pub after_taking-after-requires-clause-turns : goal.after_taking-after-requires-clause-turns
after_taking-after-requires-clause-turns g c =
    let live = c.self.inside.live in
    let kept = subst (CreditIsKept live.state) c.in-Some.is c.self.invariant.3 in
    omega (arith, kept.bounded, kept.small)

pub invariant_of-self : goal.invariant_of-self
invariant_of-self g c =
    let live = c.self.inside.live in
    let new = c.feed_all-fed.new.self in
    let feeds = c.feed_all-fed.ensures.feeds in
    let log : new.state.heap.log ≡ live.state.heap.log = fed_log live new c.args.building.now c.feed_all-fed.new.building feeds in
    let ready : new.state.ready ≡ live.state.ready = fed_ready live new c.args.building.now c.feed_all-fed.new.building feeds in
    let indexes = fed_indexes live new c.args.building.now c.feed_all-fed.new.building feeds in
    let kept = subst (CreditIsKept live.state) c.in-Some.is c.self.invariant.3 in
    let few = subst (λ (l : LockedValue). OnBuild l.state.build (λ b. length b.specs ≤ 8)) (sym c.self.view_is) c.requires.settled.few in
    let many = subst (λ (l : LockedValue). 1024 < waiting_in l.state) (sym c.self.view_is) c.requires.many in
    let enough = enough_fed c.args.most c.feed_all-fed.result (waiting_in live.state) c.feed_all-fed.ensures.many c.requires.most many in (
      c.self.invariant.0 ∙ sym log,
      subst (λ (l : List LogRec). IsPrefix g.T.Opened.opening l) (sym log) c.self.invariant.1,
      subst (λ (l : List LogRec). HasMadeReady g.T.Opened.opening l (length new.state.ready)) (sym log)
          (subst (λ (rs : List ReadyValue). HasMadeReady g.T.Opened.opening live.state.heap.log (length rs)) (sym ready) c.self.invariant.2),
      subst (λ (credit : Credit). CreditIsKept new.state (Some credit)) (sym c.after_taking-after.ensures)
          (fed_keeps live.state new.state c.in-Some.credit c.feed_all-fed.result c.feed_all-fed.ensures.left kept (few_in_build live.state.build few) many enough indexes
          (ap length log)),
    )

pub returns-clause-goes_on : goal.returns-clause-goes_on
returns-clause-goes_on g c =
    fed_goes_on c.self.inside.live c.feed_all-fed.new.self c.args.building.now c.feed_all-fed.new.building
    (subst (λ (l : LockedValue). StandsBeside (live_in l) c.args.building.now) (sym c.self.view_is) c.requires.settled.works) c.feed_all-fed.ensures.works
    c.feed_all-fed.ensures.feeds

pub returns-clause-taken : goal.returns-clause-taken
returns-clause-taken g c =
    let live = c.self.inside.live in
    let kept = subst (CreditIsKept live.state) c.in-Some.is c.self.invariant.3 in
    let few = subst (λ (l : LockedValue). OnBuild l.state.build (λ b. length b.specs ≤ 8)) (sym c.self.view_is) c.requires.settled.few in
    let many = subst (λ (l : LockedValue). 1024 < waiting_in l.state) (sym c.self.view_is) c.requires.many in
    let enough = enough_fed c.args.most c.feed_all-fed.result (waiting_in live.state) c.feed_all-fed.ensures.many c.requires.most many in
    subst (λ (l : LockedValue). IfSome l.credit (λ credit. TakesMore credit c.after_taking-after.result)) c.self.view_is
    (subst (λ (o : Option Credit). IfSome o (λ credit. TakesMore credit c.after_taking-after.result)) (sym c.in-Some.is)
    (subst (TakesMore c.in-Some.credit) (sym c.after_taking-after.ensures)
    (takes_more live.state c.feed_all-fed.new.self.state c.in-Some.credit c.feed_all-fed.result c.feed_all-fed.ensures.left kept (few_in_build live.state.build few) many enough)))
