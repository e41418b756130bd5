use Rattle.std.proofs.Common.{List, length, ap, ◌∙◌, arith}
use Rattle.run_spool.specs.Pages.{PageValue}
use Rattle.run_spool.specs.Runs.{pairs_of, without_pairs}
use Rattle.run_spool.proofs.RunSteps.{freed_run}
use Rattle.run_spool.proofs.run.Run.free_front.Goals as goal

pub invariant_of-self : goal.invariant_of-self
invariant_of-self g c =
    let there = c.requires.there in
    let len = c.self.invariant.len_is ∙ ap (λ (pages : List PageValue). length (pairs_of pages)) c.self.view_is in
    let turned = c.move_all.ensures in
    freed_run c.args.n c.move_all.new.self c.free_first.new.chain c.self.invariant (omega arith) turned.from
    (c.free_first.ensures.chain ∙ ap (λ (xs : List PageValue). without_pairs c.args.n xs) turned.to)
