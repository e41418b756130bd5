use Rattle.std.proofs.Common.{List, arith}
use Rattle.page_workers.specs.WorkerValue.{WorkerValue}
use Rattle.page_workers.proofs.Places.{at_index}
use Rattle.building.proofs.LentBack.{all_back}
use Rattle.story_tests.proofs.lent.by_one.Goals as goal

pub returns : goal.returns
returns c = λ rings rest back.
    let workers : List WorkerValue = c.args.workers.now.items in
    let it : WorkerValue = c.index_mut.result.now in
    let at = at_index workers c.args.number it c.index_mut.ensures.value (omega (arith, c.if-number-len.false)) in
    all_back rings rest workers c.args.number it c.by_worker.new.worker at c.by_worker.ensures back
