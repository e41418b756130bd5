use Rattle.std.proofs.Common.{◌∙◌, All, List, map, ap, sym, subst}
use Rattle.keybytes.specs.declared.pair.Pair.{Pair}
use Rattle.run_spool.specs.Spools.{AreSorted, all_pairs}
use Rattle.run_merge.specs.Merging.{all_runs}
use Rattle.bulk_load.specs.Each.{AreEachOnce}
use Rattle.index_load.specs.IndexLoad.{IndexLoadValue}
use Rattle.index_load.proofs.LoadRan.{none_loadable}
use Rattle.index_load.proofs.SpoolsSeen.{runs_seen}
use Rattle.index_load.proofs.index_load.IndexLoad.take_own.Goals as goal

pub invariant_of-self : goal.invariant_of-self
invariant_of-self g c = λ _ _. rw (c.replace.ensures.after, c.new-none.ensures.items) none_loadable

pub returns-clause-sorted : goal.returns-clause-sorted
returns-clause-sorted g c =
    let spool = g.S.Spool in
    let none = ap (λ (l : IndexLoadValue). l.built) c.self.view_is ∙ c.requires.0 in
    let fine = ap (λ (l : IndexLoadValue). l.fault) c.self.view_is ∙ c.requires.1 in
    subst (λ (spools : List _). All AreSorted (map spool.runs spools)) (sym (ap (λ v. v.items) c.replace.ensures.value))
    (subst (All AreSorted) (sym (runs_seen spool.runs spool.open_run spool.stake c.self.inside.spools.items)) (c.self.invariant none fine).sorted)

pub returns-clause-once : goal.returns-clause-once
returns-clause-once g c =
    let spool = g.S.Spool in
    let none = ap (λ (l : IndexLoadValue). l.built) c.self.view_is ∙ c.requires.0 in
    let fine = ap (λ (l : IndexLoadValue). l.fault) c.self.view_is ∙ c.requires.1 in
    subst (λ (spools : List _). AreEachOnce (all_pairs (all_runs (map spool.runs spools)))) (sym (ap (λ v. v.items) c.replace.ensures.value))
    (subst (λ (rs : List (List (List Pair))). AreEachOnce (all_pairs (all_runs rs)))
    (sym (runs_seen spool.runs spool.open_run spool.stake c.self.inside.spools.items)) (c.self.invariant none fine).once)
