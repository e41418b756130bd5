use borrow.Author.Count.{below_more}
use Rattle.std.proofs.Common.{get_or, Ok, arith, sym, ap, ◌∙◌}
use Rattle.script.proofs.Misfits.{SpelledAt, all_fit}
use Rattle.script.proofs.SpelledLists.{no_field}
use Rattle.script.proofs.fitting.unfit.Goals as goal

pub loop-place-preserved : goal.loop-place-preserved
loop-place-preserved c =
    let at_part = sym c.part_at.ensures ∙ c.in-Some.is in
    let good = c.in_ok-accepts.was ∙ ap Ok c.if-not-branch.false in
    below_more (λ place. SpelledAt c.args.parts.now c.args.repeated place (get_or c.args.fields.now place no_field).now)
    c.loop-place.place c.loop-place.invariant (rw at_part (c.accepts.ensures.spelled good))

pub returns : goal.returns
returns c =
    all_fit c.args.parts.now c.args.repeated c.args.fields.now (omega arith) (λ place inside. c.loop-place.invariant place (omega arith))
