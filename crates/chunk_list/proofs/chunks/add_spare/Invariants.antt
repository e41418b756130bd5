use Rattle.std.proofs.Common.{◌-◌, ◌≤◌, max, All, vec_len, vec_capacity}
use Rattle.chunk_list.specs.Chunks.{IsSpare}
use Rattle.chunk_list.proofs.chunks.add_spare.Given as goal

abbrev pub invariant-loop-alloc : goal.invariant-loop-alloc
invariant-loop-alloc g l = record {
  spare : All IsSpare l.fn.spare.items → All IsSpare l.spare.items;
  longer : vec_len l.fn.spare ≤ vec_len l.spare;
  most : vec_len l.spare ≤ max (vec_len l.fn.spare) l.count;
  fits : l.count ≤ vec_capacity l.spare;
}

abbrev pub decreases-loop-alloc : goal.decreases-loop-alloc
decreases-loop-alloc g l = l.count - vec_len l.spare
