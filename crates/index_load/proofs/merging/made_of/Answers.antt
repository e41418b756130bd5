use Rattle.std.proofs.Common.{◌≡◌, ◌∙◌, map, sym, subst}
use Rattle.std.specs.Prelude.{IfErr, IfOk, IsPermutation, OnOk, Result}
use Rattle.btree.specs.TreeValue.{TreeValue}
use Rattle.page_workers.specs.SpoolValue.{ended_spool, pairs_in, spool_value}
use Rattle.catch_up.specs.Built.{BuiltValue}
use Rattle.keybytes.specs.declared.fault.Fault.{Fault}
use Rattle.keybytes.specs.declared.fault.Fault.TheVariants.{Memory}
use Rattle.index_load.specs.IndexLoad.{MakesIndex}
use Rattle.index_load.proofs.Merges.{index_made, none_made}
use Rattle.index_load.proofs.merging.made_of.Goals as goal
use Rattle.index_load.proofs.merging.made_of.Goals.{in-Ok, in-Err}

pub returns : goal.returns
returns g c = λ old stakes moved.
    let spool = g.S.Spool in
    let value = spool_value spool.runs spool.open_run spool.stake in
    let back = c.ended-tree.result.1.items in
    let spools = c.args.spools.items in
    let Made : Result BuiltValue Fault → Type 0 = λ r. MakesIndex c.args.build c.args.unique old r (map value back) in
    elim c.match-tree.branch [
      | in-Ok w ↦
          let tree = w.in-Ok.tree in
          let is = c.ended-tree.ensures.tree in
          let its = w.index_of-built.ensures in
          subst Made (sym w.built-is)
          (index_made spool.runs spool.open_run spool.stake c.args.build c.args.unique spools back old stakes c.ended-tree.ensures.stakes tree w.index_of-built.result
          (subst (λ r. IfOk r (λ (t : TreeValue). IsPermutation (pairs_in old) t.pairs)) (sym is ∙ w.in-Ok.is) moved)
          (subst (λ (r : Result TreeValue Fault). OnOk r (map value back ≡ map ended_spool (map value spools))) (sym is ∙ w.in-Ok.is) c.ended-tree.ensures.ended)
          its.pairs its.order its.build its.unique its.memory)
      | in-Err w ↦
          subst Made (sym w.built-is)
          (none_made spool.runs spool.open_run spool.stake c.args.build c.args.unique spools back old stakes c.ended-tree.ensures.stakes w.in-Err.fault
          (subst (λ (r : Result TreeValue Fault). IfErr r (λ f. f ≡ Memory)) (sym c.ended-tree.ensures.tree ∙ w.in-Err.is) c.requires.memory))
    ]
