use Rattle.std.proofs.Common.{◌≡◌, ℕ, List, length, sym, ap, ◌∙◌, arith}
use Rattle.std.specs.Prelude.{◌==◌}
use Rattle.std.proofs.lemmas.Bool.{le-ltb}
use Rattle.heap_log.specs.declared.record.LogRec.{LogRec}
use Rattle.crew.proofs.Matched.{unmatched, matched_here}
use Rattle.crew.proofs.table.closing.is_matched_at.Goals as goal

pub returns-then-place-receipts : goal.returns-then-place-receipts
returns-then-place-receipts g c =
    let d : List LogRec = c.index-receipts-place.result in
    let own : c.number.result ≡ length {A = LogRec} (c.index-receipts-place.result) = c.number.ensures in
    ap (λ (n : ℕ). n == c.args.number) (own ∙ ap (length {A = LogRec}) c.index-receipts-place.is)
    ∙ matched_here c.args.receipts.now c.args.place c.args.number d c.requires.order c.requires.below c.requires.first c.if-place-receipts.true

pub returns-else-place-receipts : goal.returns-else-place-receipts
returns-else-place-receipts g c =
    let receipts : List (List LogRec) = c.args.receipts.now in
    let place : ℕ = c.args.place in
    le-ltb place (length receipts) c.if-place-receipts.false
    ∙ sym (unmatched receipts place c.args.number c.requires.order c.requires.below (λ d within. absurd (omega (arith, within, c.if-place-receipts.false))))
