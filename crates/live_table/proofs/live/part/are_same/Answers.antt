use Rattle.std.proofs.Common.{refl, arith}
use Rattle.std.proofs.lemmas.List.{same_lists}
use Rattle.live_table.proofs.live.part.are_same.Goals as goal

pub returns : goal.returns
returns c = (
  λ yes. same_lists c.args.one.now c.args.other.now c.if-one-other.false (λ k d less. c.loop-index.invariant k d (omega (arith, less, c.loop-index-test.false))),
  λ same. refl,
)
