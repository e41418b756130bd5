use Rattle.std.proofs.Common.{◌≡◌, subst, arith}
use Rattle.heap_table.specs.HeapValue.{HeapValue}
use Rattle.heap_table.specs.Pages.{pages_written}
use Rattle.heap_table.proofs.KeptFacts.{kept_count, kept_limit}
use Rattle.heap_table.proofs.heap.Heap.pages.Goals as goal

pub overflow_cast-result : goal.overflow_cast-result
overflow_cast-result c = omega (arith, c.len.ensures, kept_count _ _ c.self.invariant.kept, kept_limit _ _ c.self.invariant.kept)

pub returns-clause-pages : goal.returns-clause-pages
returns-clause-pages c =
    subst (λ (h : HeapValue). c.len.result ≡ pages_written h.state.log) c.self.view_is (omega (arith, c.len.ensures, kept_count _ _ c.self.invariant.kept))

pub returns-clause-limit : goal.returns-clause-limit
returns-clause-limit c = omega (arith, c.len.ensures, kept_count _ _ c.self.invariant.kept, kept_limit _ _ c.self.invariant.kept)
