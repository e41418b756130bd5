use Rattle.std.proofs.Common.{◌≡◌, ◌∙◌, ℕ, suc, ◌+◌, ◌-◌, Some, length, map, set, take, drop, ◌++◌, refl, sym, ap, arith}
use Rattle.std.specs.List.{slice_get}
use Rattle.page_workers.specs.SpoolValue.{spool_value}
use Rattle.index_load.specs.Columns.{column}
use Rattle.index_load.specs.IndexLoad.{IndexLoadValue, without_spools}
use Rattle.building.proofs.LoadsApart.{columns_back, one_changed, still_there}
use Rattle.page_workers.proofs.Places.{at_index, below}
use Rattle.building.proofs.loads.put_spools_back.Goals as goal

pub loop-back-preserved : goal.loop-back-preserved
loop-back-preserved g c =
    let loads = c.args.loads.now in
    let kept = c.loop-back.invariant in
    let m = c.loop-back.back in
    let a : ℕ = length loads - 1 - m in
    let one : length loads - m ≡ suc a = omega (arith, c.loop-back-test.true) in
    let next : length loads - (m + 1) ≡ a = omega (arith, c.loop-back-test.true) in
    let it = c.index-loads-count.result in
    let now : c.loop-back.loads ≡ take (suc a) loads ++ map without_spools (drop (suc a) loads) =
    kept.loads ∙ ap (λ i. take i loads ++ map without_spools (drop i loads)) one in
    let long : length c.loop-back.loads ≡ length loads = c.loop-back.auto.loads in
    let at : slice_get loads a ≡ Some it =
    still_there without_spools loads a it
    (ap (λ l. slice_get l a) (sym now) ∙ at_index c.loop-back.loads a it c.index-loads-count.is (omega (arith, long, c.loop-back-test.true))) in
    record {
      counted = kept.counted;
      many = c.put_back.ensures.many;
      columns = λ j load less there.
          columns_back g.S.Spool.runs g.S.Spool.open_run g.S.Spool.stake loads a m c.loop-back.spools.items c.put_back.new.spools.items c.take_spools-own.result.items it
          c.put_back.ensures.own c.put_back.ensures.others at
          (c.take_spools-own.ensures.spools ∙ ap (λ (l : IndexLoadValue). l.spools) (sym c.index-loads-count.is))
          (λ i l few here. kept.columns i l few (ap (λ k. slice_get loads (k + i)) one ∙ here)) j load less (ap (λ k. slice_get loads (k + j)) (sym next) ∙ there);
      loads = ap (λ l. set l a c.take_spools-own.new.self) now ∙ ap (set (take (suc a) loads ++ map without_spools (drop (suc a) loads)) a)
          (c.take_spools-own.ensures.left ∙ ap without_spools (sym c.index-loads-count.is))
          ∙ one_changed without_spools loads loads a it at refl ∙ ap (λ i. take i loads ++ map without_spools (drop i loads)) (sym next);
      room = omega (arith, kept.room, c.put_back.ensures.capacity);
      capacity = omega (arith, kept.capacity, c.put_back.ensures.capacity);
    }

pub returns-clause-columns : goal.returns-clause-columns
returns-clause-columns g c = λ index load at.
    let loads = c.args.loads.now in
    let value = spool_value g.S.Spool.runs g.S.Spool.open_run g.S.Spool.stake in
    let last : c.loop-back.back ≡ length loads = omega (arith, c.loop-back-test.false, c.loop-back.auto.back-end) in
    let first : index ≡ (length loads - c.loop-back.back) + index = omega (arith, last) in
    ap (λ n. column index n (map value c.loop-back.spools.items)) (sym last)
    ∙ c.loop-back.invariant.columns index load (omega (arith, last, below loads index load at)) (ap (slice_get loads) (sym first) ∙ at)
