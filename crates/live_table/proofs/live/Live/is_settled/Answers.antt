use Rattle.std.proofs.Common.{◌≡◌, ◌≤◌, ◌∙◌, length, refl, ap, subst, sym, arith, inl, inr}
use Rattle.std.proofs.lemmas.Bool.{cases_lt}
use Rattle.build_events.specs.CoreState.{CoreState}
use Rattle.build_events.specs.Steps.{refusal}
use Rattle.build_events.specs.declared.event.Event.TheVariants.{Apply}
use Rattle.live_lemmas.specs.Builds.{core_state}
use Rattle.live_lemmas.specs.Settling.{ring_at, ring_of}
use Rattle.table_scan.specs.TableBuilds.{BuildFollows}
use Rattle.live_lemmas.proofs.CatchingUp.{begins, may_apply_at}
use Rattle.live_lemmas.proofs.Settling.{all_settled, ring_settled}
use Rattle.live_table.proofs.live.Live.is_settled.Goals as goal

pub loop-index-init : goal.loop-index-init
loop-index-init g c = record {
  same = refl;
  none = λ k less. absurd (omega (arith, less));
  works = c.requires.works;
}

pub waiting_at-requires-clause-few : goal.waiting_at-requires-clause-few
waiting_at-requires-clause-few g c =
    let follows = subst (BuildFollows c.args.self.now.state.heap.schema c.args.self.now.state.heap.log) c.in-Some.ensures.build c.in-Some.ensures.follows in
    omega (arith, c.loop-index-test.true, c.indexes-index-end.ensures, follows.few_indexes)

pub waiting_at-requires-clause-runs : goal.waiting_at-requires-clause-runs
waiting_at-requires-clause-runs g c =
    let start = core_state c.args.self.now c.args.building.now in
    let eight : length c.args.building.now.sides ≡ 8 = c.laws.ensures.ends.eight in
    let further = begins c.args.self.now c.args.building.now c.in-Some.build.now c.in-Some.ensures.build c.requires.works c.in-Some.ensures.follows
    c.in-Some.ensures.fed c.in-Some.ensures.sides eight in
    ap (λ (s : CoreState). refusal s (Apply c.loop-index.index 256)) c.loop-index.invariant.same
    ∙ may_apply_at start start further c.in-Some.build.now c.in-Some.ensures.build c.requires.runs c.loop-index.index
    (omega (arith, c.loop-index-test.true, c.indexes-index-end.ensures))

pub loop-index-preserved : goal.loop-index-preserved
loop-index-preserved g c =
    let start = core_state c.args.self.now c.args.building.now in
    record {
      same = c.waiting_at.ensures.same ∙ c.loop-index.invariant.same;
      none = λ k less. elim (cases_lt k c.loop-index.index) [
        | inl before ↦ c.loop-index.invariant.none k before
        | inr after ↦
            let here : c.loop-index.index ≡ k = omega (arith, less, after) in
            let empty : c.waiting_at.result ≡ 0 = omega (arith, c.if-waiting_at-gt0.false) in
            subst (λ i. ring_at i start ≡ 0) here
            (sym (ap (ring_at c.loop-index.index) c.loop-index.invariant.same) ∙ sym c.waiting_at.ensures.waiting ∙ empty)
      ];
      works = c.waiting_at.ensures.works;
    }

pub returns-then-waiting_at-gt0-clause-waits : goal.returns-then-waiting_at-gt0-clause-waits
returns-then-waiting_at-gt0-clause-waits g c = λ is settled.
    let start = core_state c.args.self.now c.args.building.now in
    let empty = ring_settled start c.in-Some.build.now c.in-Some.ensures.build settled c.loop-index.index
    (omega (arith, c.loop-index-test.true, c.indexes-index-end.ensures)) in
    let ring = ap (λ o. ring_of o start c.loop-index.index) c.in-Some.ensures.build in
    let same = ap (ring_at c.loop-index.index) c.loop-index.invariant.same in
    omega (arith, c.waiting_at.ensures.waiting, same, ring, empty, c.if-waiting_at-gt0.true)

pub returns-then-waiting_at-gt0-clause-same : goal.returns-then-waiting_at-gt0-clause-same
returns-then-waiting_at-gt0-clause-same g c = c.waiting_at.ensures.same ∙ c.loop-index.invariant.same

pub returns-clause-works : goal.returns-clause-works
returns-clause-works g c = c.loop-index.invariant.works

pub returns-clause-same : goal.returns-clause-same
returns-clause-same g c = c.loop-index.invariant.same

pub returns-clause-settled : goal.returns-clause-settled
returns-clause-settled g c = λ is.
    let start = core_state c.args.self.now c.args.building.now in
    let end : length c.in-Some.build.now.specs ≤ c.loop-index.index = omega (arith, c.indexes-index-end.ensures, c.loop-index-test.false) in
    all_settled start c.in-Some.build.now c.in-Some.ensures.build c.loop-index.index end c.loop-index.invariant.none
