use Rattle.std.proofs.Common.{sym, ap, ◌∙◌}
use Rattle.btree.specs.declared.change.Change.{Change}
use Rattle.btree.proofs.LeafSteps.{leaf_out, first_is}
use Rattle.btree.proofs.walking.take_out.Goals as goal

pub returns-clause-walked : goal.returns-clause-walked
returns-clause-walked c =
    let change = c.take_first-change.result in
    let out = ap (λ (x : Change). x.puts_in) (sym (first_is _ _ change change c.take_first-change.ensures)) ∙ c.requires.out change in
    leaf_out change _ _ _ _ c.remove.result _ c.take_first-change.ensures out c.remove.ensures.removed c.remove.ensures.found c.one_if.ensures
