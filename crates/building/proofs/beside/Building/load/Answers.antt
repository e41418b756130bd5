use Rattle.std.proofs.Common.{rules, ◌*◌, ◌≡◌, ◌∙◌, ℕ, List, Option, Some, length, All, map, set, refl, sym, ap, subst, arith}
use Rattle.std.specs.Prelude.{is_some, IfSome, IsPermutation}
use Rattle.std.proofs.lemmas.Bool.{false≢true}
use Rattle.std.proofs.lemmas.List.{length-map}
use Rattle.keybytes.specs.declared.pair.Pair.{Pair}
use Rattle.run_spool.specs.Spools.{AreSorted, all_pairs}
use Rattle.run_merge.specs.Merging.{all_runs}
use Rattle.index_load.specs.Columns.{column}
use Rattle.bulk_load.specs.Each.{AreEachOnce}
use Rattle.index_load.proofs.SpoolsSeen.{column_seen, same_seen, others_seen}
use Rattle.building.specs.BuildingValue.{BuildingValue, WorkValue, IsUnloaded, is_unique}
use Rattle.std.specs.List.{slice_get}
use Rattle.building.specs.Keeping.{KeepsWork}
use Rattle.page_workers.specs.SpoolValue.{SpoolValue, spool_value}
use Rattle.building.proofs.LeftBeside.{load_stopped, stakes_beside, left_sorted, can_load, is_unloaded}
use Rattle.page_workers.proofs.Places.{there_is}
use Rattle.building.specs.Holding.{all_spools}
use Rattle.building.proofs.LoadedKept.{loaded_kept}
use Rattle.building.proofs.Stakes.{as_many}
use Rattle.building.proofs.beside.Building.load.Goals as goal

pub sorted_index-requires-clause-there : goal.sorted_index-requires-clause-there
sorted_index-requires-clause-there g c =
    let can = can_load c.args.self.now _ c.in-Some.work _ c.self.view_is c.in-Some.is c.work.view_is c.args.index c.self.invariant.6 c.requires in
    can.there

pub sorted_index-requires-clause-all : goal.sorted_index-requires-clause-all
sorted_index-requires-clause-all g c =
    let spool = g.S.Spool in
    let can = can_load c.args.self.now _ c.in-Some.work _ c.self.view_is c.in-Some.is c.work.view_is c.args.index c.self.invariant.6 c.requires in
    let long = length-map c.self.inside.spools.items (spool_value spool.runs spool.open_run spool.stake) in
    let lent = can.lent in
    sym long ∙ lent ∙ ap (λ (n : ℕ). n * length c.in-Some.work.specs) (sym (c.len-workers.ensures ∙ c.self.inside.workers.ok.0))

pub sorted_index-requires-clause-sorted : goal.sorted_index-requires-clause-sorted
sorted_index-requires-clause-sorted g c =
    let spool = g.S.Spool in
    let items = c.self.inside.spools.items in
    let can = can_load c.args.self.now _ c.in-Some.work _ c.self.view_is c.in-Some.is c.work.view_is c.args.index c.self.invariant.6 c.requires in
    subst (All AreSorted) (column_seen spool.runs spool.open_run spool.stake c.args.index (length c.in-Some.work.specs) items)
    (can.sorted (is_unloaded c.in-Some.work c.args.index c.if-is_loaded.ensures))

pub sorted_index-requires-clause-once : goal.sorted_index-requires-clause-once
sorted_index-requires-clause-once g c =
    let spool = g.S.Spool in
    let items = c.self.inside.spools.items in
    let can = can_load c.args.self.now _ c.in-Some.work _ c.self.view_is c.in-Some.is c.work.view_is c.args.index c.self.invariant.6 c.requires in
    subst (λ (rs : List (List (List Pair))). AreEachOnce (all_pairs (all_runs rs)))
    (column_seen spool.runs spool.open_run spool.stake c.args.index (length c.in-Some.work.specs) items)
    (can.once (is_unloaded c.in-Some.work c.args.index c.if-is_loaded.ensures))

pub returns-in-Err-clause-spoiled : goal.returns-in-Err-clause-spoiled
returns-in-Err-clause-spoiled g c =
    let spool = g.S.Spool in
    let value = spool_value spool.runs spool.open_run spool.stake in
    let merged = c.sorted_index in
    let items = c.self.inside.spools.items in
    load_stopped c.args.self.now _ c.in-Some.work _ c.self.view_is c.in-Some.is c.work.view_is c.args.index c.in-Err.fault (map value merged.new.spools.items)
    (same_seen spool.runs spool.open_run spool.stake merged.new.spools.items items merged.ensures.stakes)
    (others_seen spool.runs spool.open_run spool.stake c.args.index (length c.in-Some.work.specs) merged.new.spools.items items merged.ensures.others)

pub returns-clause-loaded : goal.returns-clause-loaded
returns-clause-loaded g c =
    let spool = g.S.Spool in
    let value = spool_value spool.runs spool.open_run spool.stake in
    let items = c.self.inside.spools.items in
    let built = c.in-Ok.built in
    let n : ℕ = length c.in-Some.work.specs in
    let seen = sym (column_seen spool.runs spool.open_run spool.stake c.args.index n items)
    ∙ ap (λ (b : BuildingValue). map (λ (s : SpoolValue). s.runs) (column c.args.index n b.spools)) c.self.view_is in
    let can = can_load c.args.self.now _ c.in-Some.work _ c.self.view_is c.in-Some.is c.work.view_is c.args.index c.self.invariant.6 c.requires in
    let it = there_is c.in-Some.work.indexes c.args.index (omega (arith, can.there, can.many)) in
    record {
      work = c.in-Some.work;
      runs = ap (λ (b : BuildingValue). b.work) (sym c.self.view_is) ∙ c.in-Some.is;
      it = it.0;
      there = it.1;
      again = λ loaded. absurd (false≢true (c.if-is_loaded.ensures it.0 it.1 ∙ loaded));
      first = λ none. record {
        pairs = built.pairs;
        moved = subst (λ (rs : List (List (List Pair))). IsPermutation (all_pairs (all_runs rs)) built.pairs) seen c.in-Ok.ensures.all;
        ordered = c.in-Ok.ensures.order;
        counted = c.len-count.ensures ∙ ap length c.tree.ensures;
        left = left_sorted c.args.self.now _ c.in-Some.work _ c.self.view_is c.in-Some.is c.work.view_is c.args.index
            (map value c.sorted_index.new.spools.items) built c.in-Ok.ensures.ended
            (c.in-Ok.ensures.build ∙ ap (λ (w : WorkValue). w.build) (sym c.work.view_is))
            (c.in-Ok.ensures.unique ∙ ap (λ (w : WorkValue). is_unique (slice_get w.specs c.args.index)) (sym c.work.view_is));
      };
    }

pub returns-in-Err-clause-first : goal.returns-in-Err-clause-first
returns-in-Err-clause-first g c =
    let its_work : c.args.self.now.work ≡ Some c.in-Some.work = ap (λ (b : BuildingValue). b.work) (sym c.self.view_is) ∙ c.in-Some.is in
    subst (λ (o : Option WorkValue). IfSome o (IsUnloaded c.args.index)) (sym its_work)
    (is_unloaded c.in-Some.work c.args.index c.if-is_loaded.ensures)

pub returns-then-is_loaded-clause-loaded : goal.returns-then-is_loaded-clause-loaded
returns-then-is_loaded-clause-loaded g c =
    let can = can_load c.args.self.now _ c.in-Some.work _ c.self.view_is c.in-Some.is c.work.view_is c.args.index c.self.invariant.6 c.requires in
    let it = there_is c.in-Some.work.indexes c.args.index (omega (arith, can.there, can.many)) in
    record {
      work = c.in-Some.work;
      runs = ap (λ (b : BuildingValue). b.work) (sym c.self.view_is) ∙ c.in-Some.is;
      it = it.0;
      there = it.1;
      again = λ some. (refl, search rules);
      first = λ none. absurd (false≢true (sym (ap is_some none) ∙ sym (c.if-is_loaded.ensures it.0 it.1)));
    }

pub invariant_of-self-in-Err : goal.invariant_of-self-in-Err
invariant_of-self-in-Err g c =
    let spool = g.S.Spool in
    let value = spool_value spool.runs spool.open_run spool.stake in
    let merged = c.sorted_index in
    let workers = c.self.inside.workers.items in
    let same = stakes_beside workers (map value merged.new.spools.items) (map value c.self.inside.spools.items)
    (same_seen spool.runs spool.open_run spool.stake merged.new.spools.items c.self.inside.spools.items merged.ensures.stakes) in
    let many = as_many (all_spools workers (map value merged.new.spools.items)) (all_spools workers (map value c.self.inside.spools.items)) same in (
      c.self.invariant.0,
      c.self.invariant.1,
      omega (arith, many, merged.ensures.capacity, c.self.invariant.2),
      λ none. absurd (cc),
      λ given. let none = c.self.invariant.4 given in let some = c.in-Some.is in absurd (cc),
      λ given none. absurd (cc),
      λ fine. absurd (cc),
      c.self.invariant.7,
    )

pub invariant_of-self-2 : goal.invariant_of-self-2
invariant_of-self-2 g c =
    let spool = g.S.Spool in
    let value = spool_value spool.runs spool.open_run spool.stake in
    let merged = c.sorted_index in
    let workers = c.self.inside.workers.items in
    let items = c.self.inside.spools.items in
    let built = c.in-Ok.built in
    let n : ℕ = length c.in-Some.work.specs in
    let same = stakes_beside workers (map value merged.new.spools.items) (map value items)
    (same_seen spool.runs spool.open_run spool.stake merged.new.spools.items items merged.ensures.stakes) in
    let many = as_many (all_spools workers (map value merged.new.spools.items)) (all_spools workers (map value items)) same in
    let can = can_load c.args.self.now _ c.in-Some.work _ c.self.view_is c.in-Some.is c.work.view_is c.args.index c.self.invariant.6 c.requires in
    let it = there_is c.in-Some.work.indexes c.args.index (omega (arith, can.there, can.many)) in
    let spec = there_is c.in-Some.work.specs c.args.index can.there in
    let none = is_unloaded c.in-Some.work c.args.index c.if-is_loaded.ensures it.0 it.1 in
    let seen = sym (column_seen spool.runs spool.open_run spool.stake c.args.index n items) in
    let kept = loaded_kept workers c.self.inside.side_ends.items (map value items) c.in-Some.work can.kept can.loads c.args.index spec.0 spec.1 it.0
    it.1 none (map value merged.new.spools.items) built
    (subst (λ (rs : List (List (List Pair))). IsPermutation (all_pairs (all_runs rs)) built.pairs) seen c.in-Ok.ensures.all) c.in-Ok.ensures.order
    c.in-Ok.ensures.build c.in-Ok.ensures.unique c.in-Ok.ensures.ended in (
      c.self.invariant.0,
      c.self.invariant.1,
      omega (arith, many, merged.ensures.capacity, c.self.invariant.2),
      λ none. absurd (cc),
      λ given. let none = c.self.invariant.4 given in let some = c.in-Some.is in absurd (cc),
      λ given none. absurd (cc),
      subst (λ (w : WorkValue). KeepsWork workers c.self.inside.side_ends.items (map value merged.new.spools.items)
          (Some (record w { indexes = set w.indexes c.args.index (record { built = Some built; applied = 0 }) }))) (sym c.work.view_is) kept,
      c.self.invariant.7,
    )
