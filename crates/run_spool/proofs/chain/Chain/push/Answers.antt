use Rattle.std.proofs.Common.{refl}
use Rattle.run_spool.proofs.Frames.{pushed_in}
use Rattle.run_spool.proofs.chain.Chain.push.Goals.{in-Some, in-None}
use Rattle.run_spool.proofs.chain.Chain.push.Goals as goal

pub returns-clause-chain : goal.returns-clause-chain
returns-clause-chain g c =
    elim c.match-back_mut.branch [
      | in-Some w ↦ rw (w.self-inside-is, w.result-is) (
          pushed_in g.P.PageOfPairs.value c.self.inside.frames c.args.self.now c.self.view_is g.P.PageOfPairs.pair_size c.args.pair.now w.in-Some.frame.now
          w.push_at.new.frame w.push_at.result (w.in-Some.ensures.variant.0 refl) w.in-Some.ensures.value w.push_at.ensures.frame)
      | in-None w ↦ rw (w.self-inside-is, w.result-is) c.self.view_is
    ]
