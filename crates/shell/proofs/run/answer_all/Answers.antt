use Rattle.std.proofs.Common.{◌≡◌, true, false, Ok, []}
use Rattle.std.proofs.Common.{◌∷◌, ◌++◌, ap}
use Rattle.shell.proofs.Given.{bool_cases}
use Rattle.shell.proofs.Talking.{finishes_quit, gives_more, goes_more, runs_more}
use Rattle.shell.proofs.run.answer_all.Goals as goal

pub loop-preserved : goal.loop-preserved
loop-preserved g c =
    let told = c.loop.invariant.0 in
    let next = c.in-Some.next in
    let more = rw c.in-Some.is at c.in_ok-next.ensures.next in
    let on : c.in_ok-goes_on.goes_on ≡ true = bool_cases c.in_ok-goes_on.goes_on (λ yes. yes) (λ no. let both = rw no at c.if-not-goes_on.false in cc) in (
      told ++ next.record ∷ [],
      gives_more c.args.input.now c.loop.input c.next.new.self told next c.loop.invariant.1 more,
      goes_more told next.record c.loop.invariant.2 (c.in_ok-goes_on.ensures.goes_on (ap Ok on)),
      runs_more c.args.input.now c.loop.input c.next.new.self told next _ _ _ c.loop.invariant.1 more c.loop.invariant.3 c.in_ok-goes_on.ensures.run,
    )

pub returns-then-not-goes_on : goal.returns-then-not-goes_on
returns-then-not-goes_on g c =
    let told = c.loop.invariant.0 in
    let next = c.in-Some.next in
    let more = rw c.in-Some.is at c.in_ok-next.ensures.next in
    let off : c.in_ok-goes_on.goes_on ≡ false = bool_cases c.in_ok-goes_on.goes_on (λ yes. let both = rw yes at c.if-not-goes_on.true in cc) (λ no. no) in (
      told ++ next.record ∷ [],
      finishes_quit c.args.input.now c.next.new.self told next.record
          (gives_more c.args.input.now c.loop.input c.next.new.self told next c.loop.invariant.1 more)
          c.loop.invariant.2 (c.in_ok-goes_on.ensures.quits (ap Ok off)),
      runs_more c.args.input.now c.loop.input c.next.new.self told next _ _ _ c.loop.invariant.1 more c.loop.invariant.3 c.in_ok-goes_on.ensures.run,
    )
