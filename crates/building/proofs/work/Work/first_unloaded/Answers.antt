use Rattle.std.proofs.Common.{◌≡◌, List, length, ap, sym, arith}
use Rattle.std.specs.Prelude.{not, is_some}
use Rattle.building.specs.BuildingValue.{WorkValue, IndexValue}
use Rattle.page_workers.proofs.Places.{below, there_is}
use Rattle.building.proofs.Positions.{first_here, none_here}
use Rattle.building.proofs.work.Work.first_unloaded.Goals as goal

pub returns-then-not-is_loaded : goal.returns-then-not-is_loaded
returns-then-not-is_loaded c =
    let indexes : List IndexValue = c.args.self.now.indexes in
    let many : length c.self.inside.indexes.items ≡ length indexes = ap (λ (w : WorkValue). length w.indexes) c.self.view_is in
    let it = there_is indexes c.loop-index.index (omega (arith, many, c.loop-index-test.true, c.len-index-end.ensures)) in
    first_here (λ (index : IndexValue). not (is_some index.built)) indexes c.loop-index.index it.0 (λ k x less at. ap not (c.loop-index.invariant k x less at))
    it.1 (ap not (sym (c.if-not-is_loaded.ensures it.0 it.1)))

pub returns : goal.returns
returns c =
    let indexes : List IndexValue = c.args.self.now.indexes in
    let many : length c.self.inside.indexes.items ≡ length indexes = ap (λ (w : WorkValue). length w.indexes) c.self.view_is in
    none_here (λ (index : IndexValue). not (is_some index.built)) indexes (λ k x at.
    let less = below indexes k x at in
    ap not (c.loop-index.invariant k x (omega (arith, less, many, c.loop-index-test.false, c.len-index-end.ensures)) at))
