use Rattle.std.proofs.Common.{◌≡◌, ap, ◌∙◌, sym, subst, arith, inl, inr, true}
use Rattle.std.proofs.lemmas.Bool.{cases_lt, false≢true}
use Rattle.live_lemmas.specs.Builds.{LiveValue}
use Rattle.live_lemmas.specs.Switching.{IsFedAt}
use Rattle.live_lemmas.proofs.PartOf.{fed_at_looked, fed_of_part, more_looked, of_looked, none_looked, one_looked, part_from, sides_same}
use Rattle.live_table.proofs.live.Live.are_fed.Goals as goal

pub loop-index-init : goal.loop-index-init
loop-index-init g c = record {
  looked = none_looked c.args.self.now c.args.building.now;
  fed = λ k less. absurd (omega (arith, less));
}

pub loop-index-preserved : goal.loop-index-preserved
loop-index-preserved g c =
    let one = one_looked c.loop-index.index _ _ _ _ c.is_fed.ensures.looked in
    record {
      looked = more_looked _ _ _ _ _ _ c.loop-index.invariant.looked one;
      fed = λ k less. elim (cases_lt k c.loop-index.index) [
        | inl before ↦ fed_at_looked _ _ _ _ (sides_same _ _ _ _ one) k (c.loop-index.invariant.fed k before)
        | inr after ↦
            let same : c.loop-index.index ≡ k = omega (arith, less, after) in
            subst (λ i. IsFedAt i c.is_fed.new.self c.is_fed.new.building) same (c.is_fed.ensures.fed.0 c.if-not-is_fed.false)
      ];
    }

pub returns-then-not-is_fed-clause-foreign : goal.returns-then-not-is_fed-clause-foreign
returns-then-not-is_fed-clause-foreign g c = λ no part.
    let one = one_looked c.loop-index.index _ _ _ _ c.is_fed.ensures.looked in
    let all = more_looked _ _ _ _ _ _ c.loop-index.invariant.looked one in
    let yes : c.is_fed.result ≡ true =
    c.is_fed.ensures.fed.1 (fed_at_looked _ _ _ _ (sides_same _ _ _ _ all) c.loop-index.index (fed_of_part c.args.self.now c.args.building.now c.loop-index.index part)) in
    false≢true (sym c.if-not-is_fed.true ∙ yes)

pub returns-then-not-is_fed-clause-looked : goal.returns-then-not-is_fed-clause-looked
returns-then-not-is_fed-clause-looked g c =
    more_looked _ _ _ _ _ _ c.loop-index.invariant.looked (one_looked c.loop-index.index _ _ _ _ c.is_fed.ensures.looked)

pub returns-clause-part : goal.returns-clause-part
returns-clause-part g c = λ yes.
    let looked = c.loop-index.invariant.looked in
    part_from c.loop-index.self c.loop-index.building c.in-Some.build.now (ap (λ (l : LiveValue). l.state.build) looked.of_live ∙ c.in-Some.ensures.build)
    (of_looked _ _ _ _ (sides_same _ _ _ _ looked) c.requires)
    (λ k less. c.loop-index.invariant.fed k (omega (arith, less, c.loop-index-test.false, c.indexes-index-end.ensures)))
