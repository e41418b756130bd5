use Rattle.std.proofs.Common.{length}
use Rattle.race.proofs.Whole.{told_over}
use Rattle.race.proofs.running.run_reserved.Goals as goal

pub returns-clause-told : goal.returns-clause-told
returns-clause-told g c =
    let closed = c.close_with-live.ensures in
    told_over g.T.Opened.opening c.close_with-live.result.live.state.heap.log c.args.planned c.args.sessions.items _ _ _ c.run_beside-build.ensures.left closed.opening
    closed.receipts closed.known closed.missing
    (record { ready = length c.close_with-live.result.live.state.ready; made = closed.ready; checked = c.check_all.ensures })
