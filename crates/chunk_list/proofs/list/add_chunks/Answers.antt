use Rattle.std.proofs.Common.{arith}
use Rattle.chunk_list.proofs.FilledLemmas.{Grows-push}
use Rattle.chunk_list.proofs.list.add_chunks.Goals as goal

pub loop-alloc-preserved : goal.loop-alloc-preserved
loop-alloc-preserved g c = record {
  grows = rw c.push_reserved.ensures.items (Grows-push _ _ c.in_ok-empty.empty c.loop-alloc.invariant.grows c.in_ok-empty.ensures.items
      c.in_ok-empty.ensures.capacity);
  fits = omega (arith, c.push_reserved.ensures.capacity, c.loop-alloc.invariant.fits);
}
