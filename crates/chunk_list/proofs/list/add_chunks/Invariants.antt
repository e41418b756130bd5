use Rattle.std.proofs.Common.{◌-◌, ◌≤◌, vec_len, vec_capacity}
use Rattle.chunk_list.specs.Filled.{Grows}
use Rattle.chunk_list.proofs.list.add_chunks.Given as goal

abbrev pub invariant-loop-alloc : goal.invariant-loop-alloc
invariant-loop-alloc g l = record {
  grows : Grows l.fn.chunks.items l.chunks.items;
  fits : l.count ≤ vec_capacity l.chunks;
}

abbrev pub decreases-loop-alloc : goal.decreases-loop-alloc
decreases-loop-alloc g l = l.count - vec_len l.chunks
