use Rattle.std.proofs.Common.{Err, ap, lit<, sym, ◌∙◌}
use Rattle.std.proofs.lemmas.Iterator.Consumers.{YieldsList-at, YieldsList-turn, YieldsList-end}
use Rattle.std.proofs.lemmas.Iterator.Splits.{YieldsList-from_str_split}
use Rattle.script.proofs.SpelledLists.{parts_none, spelled_push}
use Rattle.script.proofs.fields.joined.Goals as goal

pub returns-in_err-spelled-clause-refused : goal.returns-in_err-spelled-clause-refused
returns-in_err-spelled-clause-refused g c = λ bad.
    let error = rw bad at c.from_residual.ensures in
    let none = c.spelled.ensures.refused (c.in_err-spelled.was ∙ ap Err (sym error.1)) in
    let parts = YieldsList-from_str_split 59 c.args.text.now (lit< tt) c.split-part-items.ensures.text c.split-part-items.ensures.has_more
    c.split-part-items.ensures.pattern in
    let turn = YieldsList-turn (YieldsList-at c.into_iter-part-iterator.ensures.into_iter_gives parts) c.loop-part.yielded _ c.loop-part.yielded_by _ _
    c.in-Some.part c.in-Some.is c.next.ensures.steps in
    parts_none g.T.Spelled.spells _ _ c.in-Some.part.now turn.0 turn.1 none

pub loop-part-preserved : goal.loop-part-preserved
loop-part-preserved g c = rw c.in_ok-push.ensures.items (spelled_push g.T.Spelled.spells _ _ c.in-Some.part _ c.loop-part.invariant c.in_ok-spelled.ensures.ok)

pub returns-clause-ok : goal.returns-clause-ok
returns-clause-ok g c =
    let parts = YieldsList-from_str_split 59 c.args.text.now (lit< tt) c.split-part-items.ensures.text c.split-part-items.ensures.has_more
    c.split-part-items.ensures.pattern in
    let all = YieldsList-end (YieldsList-at c.into_iter-part-iterator.ensures.into_iter_gives parts) c.loop-part.yielded _ c.loop-part.yielded_by _ _
    c.in-None.is c.next.ensures.steps in
    rw all.0 at c.loop-part.invariant
