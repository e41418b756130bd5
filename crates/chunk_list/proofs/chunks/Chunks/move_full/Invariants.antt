use Rattle.chunk_list.specs.Chunks.{AreKept}
use Rattle.chunk_list.specs.Moves.{MovesFull}
use Rattle.chunk_list.proofs.chunks.Chunks.move_full.Given as goal

abbrev pub invariant-loop : goal.invariant-loop
invariant-loop g l = record {
  kept : AreKept l.self;
  taken_kept : AreKept l.taken;
  moves : MovesFull l.counter l.initial.self l.initial.taken l.self l.taken;
}
