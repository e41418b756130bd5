use Rattle.std.proofs.Common.{◌≡◌, ◌∙◌, ◌-◌, map, refl, ap, sym, subst}
use Rattle.std.specs.Prelude.{OnOk}
use Rattle.std.proofs.lemmas.Result.{on_ok_weaker}
use Rattle.page_workers.specs.SpoolValue.{spool_value, ended_spool}
use Rattle.index_load.specs.Columns.{ended_column}
use Rattle.index_load.proofs.Columns.{every_map, every_changed, all_but_changed}
use Rattle.index_load.proofs.Merges.{ended_same, put_together}
use Rattle.index_load.proofs.merging.merged_tree.Goals as goal

pub returns-clause-stakes : goal.returns-clause-stakes
returns-clause-stakes g c =
    let stake = g.S.Spool.stake in
    let a = c.args in
    let all = a.spools.now.items in
    put_together stake a.index a.indexes all c.put_back.new.spools.items c.ended-tree.result.1.items c.put_back.ensures.own
    (c.put_back.ensures.others ∙ c.in_ok-own.ensures.others) (map stake all)
    (every_map stake (a.indexes - 1) a.index all ∙ sym (c.ended-tree.ensures.stakes ∙ c.tree_of-tree.ensures.stakes ∙ ap (map stake) c.in_ok-own.ensures.own)) refl

pub returns-clause-ended : goal.returns-clause-ended
returns-clause-ended g c =
    let spool = g.S.Spool in
    let value = spool_value spool.runs spool.open_run spool.stake in
    let a = c.args in
    let all = a.spools.now.items in
    let between = a.indexes - 1 in
    subst (λ r. OnOk r (map value c.put_back.new.spools.items ≡ ended_column a.index a.indexes (map value all))) (sym c.ended-tree.ensures.tree)
    (on_ok_weaker c.tree_of-tree.result.0 (λ ended.
    put_together value a.index a.indexes all c.put_back.new.spools.items c.ended-tree.result.1.items c.put_back.ensures.own
    (c.put_back.ensures.others ∙ c.in_ok-own.ensures.others) (ended_column a.index a.indexes (map value all))
    (every_changed ended_spool between a.index (map value all) ∙ ap (map ended_spool) (every_map value between a.index all)
    ∙ sym (ended ∙ ended_same spool.runs spool.open_run spool.stake c.tree_of-tree.result.1.items c.in_ok-own.own.items c.tree_of-tree.ensures.stakes
    ∙ ap (λ own. map ended_spool (map value own)) c.in_ok-own.ensures.own))
    (all_but_changed ended_spool between a.index (map value all))) c.ended-tree.ensures.ended)
