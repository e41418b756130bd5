use Rattle.std.proofs.Common.{◌≡◌, ◌∙◌, ◌+◌, ◌*◌, ◌-◌, ◌++◌, [], ap, sym, arith, append-nil}
use Rattle.index_load.specs.Columns.{every, all_but}
use Rattle.index_load.proofs.TakenOut.{own_taken, others_taken, none_left, all_left}
use Rattle.index_load.proofs.merging.move_out.Goals as goal

pub loop-worker-preserved : goal.loop-worker-preserved
loop-worker-preserved g c =
    let a = c.args in
    let before = c.loop-worker in
    let kept = before.invariant in
    let gone = c.remove.ensures.items in
    record {
      own = rw (c.push_reserved.ensures.items, gone) (own_taken a.workers a.indexes a.index c.requires.there _ [] before.worker before.own.items before.spools.items c.remove.result
          kept.left c.loop-worker-test.true c.remove.ensures.value kept.own);
      others = rw gone (others_taken a.workers a.indexes a.index c.requires.there [] _ before.worker before.own.items before.spools.items c.remove.result
          kept.left c.loop-worker-test.true c.remove.ensures.value kept.others);
      many = grind (arith, c.push_reserved.ensures, kept.many);
      left = grind (arith, c.remove.ensures, kept.left);
      room = grind (arith, c.push_reserved.ensures, kept.room);
      kept = grind (arith, c.remove.ensures, kept.kept);
      same = c.remove.ensures.capacity ∙ kept.same;
    }

pub returns-clause-own : goal.returns-clause-own
returns-clause-own g c =
    let a = c.args in
    let kept = c.loop-worker.invariant in
    let last : c.loop-worker.worker ≡ a.workers = omega (arith, c.loop-worker-test.false, c.loop-worker.auto.worker-end) in
    let none = none_left a.workers a.indexes a.index c.requires.there [] [] c.loop-worker.spools.items (omega (arith, kept.left, last)) in
    sym (append-nil c.loop-worker.own.items)
    ∙ ap (λ l. c.loop-worker.own.items ++ l) (sym none)
    ∙ ap (λ n. c.loop-worker.own.items ++ every (a.indexes - 1) (n * (a.indexes - 1) + a.index) c.loop-worker.spools.items) (sym last)
    ∙ kept.own

pub returns-clause-others : goal.returns-clause-others
returns-clause-others g c =
    let a = c.args in
    let kept = c.loop-worker.invariant in
    let last : c.loop-worker.worker ≡ a.workers = omega (arith, c.loop-worker-test.false, c.loop-worker.auto.worker-end) in
    sym (all_left a.workers a.indexes a.index c.requires.there [] [] c.loop-worker.spools.items (omega (arith, kept.left, last)))
    ∙ ap (λ n. all_but (a.indexes - 1) (n * (a.indexes - 1) + a.index) c.loop-worker.spools.items) (sym last) ∙ kept.others
