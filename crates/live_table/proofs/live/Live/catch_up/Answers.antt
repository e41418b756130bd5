use Rattle.std.proofs.Common.{◌≡◌, ◌≤◌, ◌∙◌, length, refl, subst, arith, inl, inr}
use Rattle.std.proofs.lemmas.Bool.{cases_lt}
use Rattle.live_lemmas.specs.Builds.{core_state}
use Rattle.table_scan.specs.TableBuilds.{BuildFollows}
use Rattle.live_lemmas.specs.CatchingUp.{left_at}
use Rattle.live_lemmas.proofs.SentAll.{sends_all}
use Rattle.live_lemmas.proofs.SentNext.{sends_nothing, sends_twice}
use Rattle.live_lemmas.proofs.CatchingUp.{begins, catches_up, all_further, others_left, may_apply_at, none_left, none_of_each}
use Rattle.live_table.proofs.live.Live.catch_up.Goals as goal

pub loop-index-init : goal.loop-index-init
loop-index-init g c =
    let eight : length c.args.building.now.sides ≡ 8 = c.laws.ensures.ends.eight in
    record {
      further = begins c.args.self.now c.args.building.now c.in-Some.build.now c.in-Some.ensures.build c.requires.works c.in-Some.ensures.follows c.in-Some.ensures.fed
          c.in-Some.ensures.sides eight;
      none = λ k less. absurd (omega (arith, less));
      works = c.requires.works;
      sends = sends_nothing c.args.self.now c.in-Some.build.now c.in-Some.ensures.build;
      pages = refl;
    }

pub catch_up_one-requires-clause-works : goal.catch_up_one-requires-clause-works
catch_up_one-requires-clause-works g c = c.loop-index.invariant.works

pub catch_up_one-requires-clause-few : goal.catch_up_one-requires-clause-few
catch_up_one-requires-clause-few g c =
    let follows = subst (BuildFollows c.args.self.now.state.heap.schema c.args.self.now.state.heap.log) c.in-Some.ensures.build c.in-Some.ensures.follows in
    omega (arith, c.loop-index-test.true, c.indexes-index-end.ensures, follows.few_indexes)

pub catch_up_one-requires-clause-runs : goal.catch_up_one-requires-clause-runs
catch_up_one-requires-clause-runs g c =
    let start = core_state c.args.self.now c.args.building.now in
    let now = core_state c.loop-index.self c.loop-index.building in
    may_apply_at start now c.loop-index.invariant.further c.in-Some.build.now c.in-Some.ensures.build c.requires.runs c.loop-index.index
    (omega (arith, c.loop-index-test.true, c.indexes-index-end.ensures))

pub loop-index-preserved : goal.loop-index-preserved
loop-index-preserved g c =
    let start = core_state c.args.self.now c.args.building.now in
    let mid = core_state c.loop-index.self c.loop-index.building in
    let new = core_state c.catch_up_one.new.self c.catch_up_one.new.building in
    let one = c.catch_up_one.ensures.further in
    record {
      further = all_further c.loop-index.index start mid new c.loop-index.invariant.further one;
      none = λ k less. elim (cases_lt k c.loop-index.index) [
        | inl before ↦
            others_left c.loop-index.index start mid new c.loop-index.invariant.further one k (λ same. omega (arith, same, before)) ∙ c.loop-index.invariant.none k before
        | inr after ↦
            let same : c.loop-index.index ≡ k = omega (arith, less, after) in
            subst (λ i. left_at i new ≡ 0) same c.in_ok-catch_up_one.ensures.all
      ];
      works = c.catch_up_one.ensures.works;
      sends = sends_twice c.args.self.now c.loop-index.self c.catch_up_one.new.self c.loop-index.invariant.sends c.catch_up_one.ensures.sends;
      pages = c.catch_up_one.ensures.pages ∙ c.loop-index.invariant.pages;
    }

pub returns-in_err-catch_up_one-clause-further : goal.returns-in_err-catch_up_one-clause-further
returns-in_err-catch_up_one-clause-further g c =
    let start = core_state c.args.self.now c.args.building.now in
    let mid = core_state c.loop-index.self c.loop-index.building in
    let new = core_state c.catch_up_one.new.self c.catch_up_one.new.building in
    catches_up start new (all_further c.loop-index.index start mid new c.loop-index.invariant.further c.catch_up_one.ensures.further)

pub returns-clause-further : goal.returns-clause-further
returns-clause-further g c =
    catches_up (core_state c.args.self.now c.args.building.now) (core_state c.loop-index.self c.loop-index.building) c.loop-index.invariant.further

pub returns-clause-all : goal.returns-clause-all
returns-clause-all g c =
    let start = core_state c.args.self.now c.args.building.now in
    let now = core_state c.loop-index.self c.loop-index.building in
    let end : length c.in-Some.build.now.specs ≤ c.loop-index.index = omega (arith, c.indexes-index-end.ensures, c.loop-index-test.false) in
    none_left start now c.loop-index.invariant.further
    (none_of_each start now c.loop-index.invariant.further c.in-Some.build.now c.in-Some.ensures.build c.loop-index.index end c.loop-index.invariant.none)

pub returns-clause-fed : goal.returns-clause-fed
returns-clause-fed g c =
    let start = core_state c.args.self.now c.args.building.now in
    let now = core_state c.loop-index.self c.loop-index.building in
    let end : length c.in-Some.build.now.specs ≤ c.loop-index.index = omega (arith, c.indexes-index-end.ensures, c.loop-index-test.false) in
    sends_all c.args.self.now c.loop-index.self c.args.building.now c.loop-index.building c.loop-index.invariant.sends c.loop-index.invariant.further
    (none_of_each start now c.loop-index.invariant.further c.in-Some.build.now c.in-Some.ensures.build c.loop-index.index end c.loop-index.invariant.none)

pub returns-clause-works : goal.returns-clause-works
returns-clause-works g c = c.loop-index.invariant.works

pub returns-in_err-catch_up_one-clause-pages : goal.returns-in_err-catch_up_one-clause-pages
returns-in_err-catch_up_one-clause-pages g c = c.catch_up_one.ensures.pages ∙ c.loop-index.invariant.pages

pub returns-clause-pages : goal.returns-clause-pages
returns-clause-pages g c = c.loop-index.invariant.pages

pub returns-in_err-catch_up_one-clause-sends : goal.returns-in_err-catch_up_one-clause-sends
returns-in_err-catch_up_one-clause-sends g c =
    sends_twice c.args.self.now c.loop-index.self c.catch_up_one.new.self c.loop-index.invariant.sends c.catch_up_one.ensures.sends

pub returns-clause-sends : goal.returns-clause-sends
returns-clause-sends g c = c.loop-index.invariant.sends
