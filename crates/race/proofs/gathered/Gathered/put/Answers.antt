use Rattle.std.proofs.Common.{List, ap, subst}
use Rattle.heap_log.specs.declared.record.LogRec.{LogRec}
use Rattle.race.specs.OneLog.{HasKept}
use Rattle.race.specs.Sessions.{EndedValue}
use Rattle.race.proofs.gathered.Gathered.put.Goals as goal

pub returns-clause-receipts : goal.returns-clause-receipts
returns-clause-receipts g c =
    subst (λ (more : List (List LogRec)). HasKept c.args.self.now.receipts.items more c.keep_all.new.kept.items)
    (ap (λ (it : EndedValue). it.left.receipts) c.ended.view_is) c.keep_all.ensures
