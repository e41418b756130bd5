use Rattle.chunk_list.proofs.QueueLemmas.{MovesFull-more}
use Rattle.chunk_list.proofs.chunks.Chunks.move_full.Goals as goal

pub loop-preserved : goal.loop-preserved
loop-preserved g c = record {
  kept = c.move_one.ensures.kept;
  taken_kept = c.move_one.ensures.taken_kept;
  moves = MovesFull-more c.loop.counter _ _ _ _ _ _ c.loop.invariant.moves c.move_one.ensures.moves;
}
