use Rattle.std.proofs.Common.{rules, ◌≡◌, ◌∙◌, ℕ, ◌+◌, ◌-◌, ◌*◌, length, map, sym, ap, subst, arith}
use Rattle.std.specs.List.{slice_get}
use Rattle.std.proofs.lemmas.List.Elements.{All-pop}
use Rattle.page_workers.specs.SpoolValue.{spool_value}
use Rattle.index_load.specs.Columns.{column}
use Rattle.index_load.specs.IndexLoad.{IsLoadable}
use Rattle.index_load.proofs.TakenOut.{parted}
use Rattle.building.specs.BuildingValue.{WorkValue}
use Rattle.building.specs.Equipped.{HasRoomFor}
use Rattle.building.specs.IndexLoads.{load_at}
use Rattle.building.proofs.LoadsApart.{all_pushed, columns_left, its_column, load_made, once_own, own_values, sorted_own, unique_at}
use Rattle.page_workers.proofs.Places.{at_index}
use Rattle.building.proofs.loads.fill_loads.Given as given
use Rattle.building.proofs.loads.fill_loads.Goals as goal
use Rattle.building.proofs.loads.fill_loads.Goals.{After-unique-unique}

module _ (g : given.Over) (c : After-unique-unique g) where
  abbrev k : ℕ
  k = c.loop-index.index

  abbrev n : ℕ
  n = c.len-count.result

  -- the spools that were moved out are those of the index
  own_is : c.move_out-own.result.items ≡ column k n c.args.spools.now.items
  own_is = c.move_out-own.ensures.own
      ∙ its_column n k c.args.spools.now.items c.loop-index.spools.items c.move_out-own.new.spools.items c.loop-index-test.true c.loop-index.invariant.columns
      c.move_out-own.ensures.others

  can : IsLoadable (column k n (map (spool_value g.S.Spool.runs g.S.Spool.open_run g.S.Spool.stake) c.args.spools.now.items))
  can = subst (λ (m : ℕ). IsLoadable (column k m (map (spool_value g.S.Spool.runs g.S.Spool.open_run g.S.Spool.stake) c.args.spools.now.items)))
      (sym c.loop-index.invariant.counted) (c.requires.loadable k (omega (arith, c.loop-index-test.true, c.loop-index.invariant.counted)))

pub new-requires-clause-sorted : goal.new-requires-clause-sorted
new-requires-clause-sorted g c =
    let at = (goal.at.new-requires-clause-sorted g c).After-unique-unique in
    sorted_own g.S.Spool.runs g.S.Spool.open_run g.S.Spool.stake c.loop-index.index c.len-count.result c.args.spools.now.items c.move_out-own.result.items
    (own_is g at) (can g at)

pub new-requires-clause-once : goal.new-requires-clause-once
new-requires-clause-once g c =
    let at = (goal.at.new-requires-clause-once g c).After-unique-unique in
    once_own g.S.Spool.runs g.S.Spool.open_run g.S.Spool.stake c.loop-index.index c.len-count.result c.args.spools.now.items c.move_out-own.result.items
    (own_is g at) (can g at)

pub loop-index-preserved : goal.loop-index-preserved
loop-index-preserved g c =
    let at = (goal.at.loop-index-preserved g c).After-unique-unique in
    let k = c.loop-index.index in
    let n = c.len-count.result in
    let kept = c.loop-index.invariant in
    let value = spool_value g.S.Spool.runs g.S.Spool.open_run g.S.Spool.stake in
    let values = map value c.args.spools.now.items in
    let own = own_values g.S.Spool.runs g.S.Spool.open_run g.S.Spool.stake k n c.args.spools.now.items c.move_out-own.result.items (own_is g at) (can g at)
    ∙ ap (λ m. column k m values) kept.counted in
    record {
      counted = kept.counted;
      rooms = omega (arith, kept.rooms, c.in-Some.ensures.len, c.pop.new.self.ok, c.loop-index.rooms.ok);
      empty = (All-pop (HasRoomFor c.args.workers) c.loop-index.rooms.items c.pop.new.self.items c.pop.result c.pop.ensures.items kept.empty).0;
      many = grind (arith, c.push_reserved.ensures, kept.many);
      places = grind (arith, c.push_reserved.ensures, kept.places);
      left = let some = parted c.args.workers (n - k) 0 (omega (arith, c.loop-index-test.true)) in
          let all = c.move_out-own.ensures.all in
          let same : c.args.workers * (n - k - 1) ≡ c.args.workers * (n - (k + 1)) = ap (λ m. c.args.workers * m) (omega arith) in
          omega (arith, some, all, same);
      columns = columns_left n k c.args.spools.now.items c.loop-index.spools.items c.move_out-own.new.spools.items c.loop-index-test.true kept.columns
          c.move_out-own.ensures.others;
      loads = λ i less. ap (λ l. slice_get l i) c.push_reserved.ensures.items
          ∙ all_pushed (load_at c.args.work.now values) c.loop-index.loads.items k c.new.result kept.many kept.loads
          (c.new.ensures ∙ load_made c.args.work.now values k c.work.inside.build c.unique-unique.result (map value c.move_out-own.result.items)
          (ap (λ (w : WorkValue). w.build) c.work.view_is) (c.unique-unique.ensures ∙ unique_at c.args.work.now.specs k c.index.result.now
          (ap (λ (w : WorkValue). slice_get w.specs k) (sym c.work.view_is) ∙ at_index c.work.inside.specs.items k c.index.result.now (search rules) (omega (arith, c.loop-index-test.true, kept.counted, ap (λ (w : WorkValue). length w.specs) c.work.view_is)))) own) i less;
      capacity = c.move_out-own.ensures.capacity ∙ kept.capacity;
    }
