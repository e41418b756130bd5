use Rattle.std.proofs.Common.{◌<◌, ◌≤◌, ℕ, ◌+◌, List, length, get_or, Bool, sym, ap, ◌∙◌, arith, ⊎_elim}
use Rattle.std.specs.Prelude.{cond}
use Rattle.std.proofs.lemmas.Bool.{cases_lt}
use Rattle.heap_log.specs.declared.record.LogRec.{LogRec}
use Rattle.crew.proofs.Matched.{missing_more}
use Rattle.crew.proofs.table.closing.missing_after.Goals as goal
use Rattle.crew.proofs.table.closing.missing_after.Goals.{then-not-is_matched_at, else-not-is_matched_at}

pub loop-before-preserved : goal.loop-before-preserved
loop-before-preserved g c =
    let receipts : List (List LogRec) = c.args.receipts.now in
    let before : ℕ = c.loop-before.before in
    let opened : ℕ = c.args.opened in
    let was = c.loop-before.invariant in
    let more = missing_more receipts opened before c.loop-before.auto.before in
    let below : (k : ℕ) (d : List LogRec) → k < c.first_from-place.result → length (get_or receipts k d) < before + 1 + 1 =
    λ k d inside.
    ⊎_elim
    (λ (earlier : k < c.loop-before.place). omega (arith, was.below k d earlier))
    (λ (later : c.loop-before.place ≤ k). omega (arith, c.first_from-place.ensures.below k d later inside))
    (cases_lt k c.loop-before.place) in
    elim c.if-not-is_matched_at.branch [
      | then-not-is_matched_at w ↦ record {
        few = omega (arith, was.few, w.missing-is, c.loop-before.auto.before);
        counted =
            omega (arith, w.missing-is, was.counted, more, ap {B = ℕ} (λ (is : Bool). cond is 0 1) (sym c.is_matched_at.ensures ∙ w.if-not-is_matched_at.true));
        inside = c.first_from-place.ensures.inside;
        below = below;
      }
      | else-not-is_matched_at w ↦ record {
        few = omega (arith, was.few, w.missing-is, c.loop-before.auto.before);
        counted =
            omega (arith, w.missing-is, was.counted, more, ap {B = ℕ} (λ (is : Bool). cond is 0 1) (sym c.is_matched_at.ensures ∙ w.if-not-is_matched_at.false));
        inside = c.first_from-place.ensures.inside;
        below = below;
      }
    ]
