use Rattle.std.proofs.Common.{◌≡◌, ◌+◌, ◌<◌, ℕ, List, None, ap, subst, sym, ◌∙◌, inl, inr, arith, length-set}
use Rattle.std.proofs.lemmas.Bool.{cases_lt}
use Rattle.page_workers.specs.WorkerValue.{WorkerValue}
use Rattle.page_workers.proofs.Places.{all_from, at_set, below, kept}
use Rattle.crew.specs.Places.{place_of, places_of}
use Rattle.crew.specs.Working.{IsSealed}
use Rattle.crew.proofs.online_build.scanning.seal_all.Goals as goal

pub returns-in_err-seal-clause-back : goal.returns-in_err-seal-clause-back
returns-in_err-seal-clause-back g c =
    kept place_of c.loop-number.workers.items (places_of c.args.workers.now.items) c.loop-number.number c.seal.new.worker c.index_mut.result.now c.loop-number.invariant.back
    (c.seal.ensures.same ∙ ap place_of c.index_mut.ensures.value)

pub loop-number-preserved : goal.loop-number-preserved
loop-number-preserved g c =
    let workers : List WorkerValue = c.loop-number.workers.items in
    let number = c.loop-number.number in
    record {
      back = kept place_of workers (places_of c.args.workers.now.items) number c.seal.new.worker c.index_mut.result.now c.loop-number.invariant.back
          (c.seal.ensures.same ∙ ap place_of c.index_mut.ensures.value);
      many = length-set workers number c.seal.new.worker ∙ c.loop-number.invariant.many;
      sealed = λ k worker less at. elim (at_set workers number c.seal.new.worker k worker at) [
        | inl this ↦ subst IsSealed (sym this.1) (c.index_mut.result.now, c.in_ok-seal.ensures.sealed)
        | inr other ↦ c.loop-number.invariant.sealed k worker (lower k number less other.0) other.1
      ];
    } where
      lower : (k n : ℕ) → k < n + 1 → (k ≡ n → ⊥) → k < n
      lower k n less other = elim (cases_lt k n) [
        | inl lower_one ↦ lower_one
        | inr not_lower ↦ absurd (other (omega (arith, less, not_lower)))
      ]

pub returns-clause-fine : goal.returns-clause-fine
returns-clause-fine g c =
    all_from (λ (w : WorkerValue). w.fault ≡ None) c.loop-number.workers.items (λ k worker at.
    let here = below c.loop-number.workers.items k worker at in
    (c.loop-number.invariant.sealed k worker (omega (arith, here, c.loop-number.invariant.many)) at).1.does.sound.1)

pub returns-clause-sealed : goal.returns-clause-sealed
returns-clause-sealed g c =
    all_from IsSealed c.loop-number.workers.items (λ k worker at.
    let here = below c.loop-number.workers.items k worker at in
    c.loop-number.invariant.sealed k worker (omega (arith, here, c.loop-number.invariant.many)) at)
