use Rattle.std.proofs.Common.{sym}
use Rattle.chunk_list.proofs.FilledLemmas.{length-filled}
use Rattle.chunk_list.proofs.list.ChunkList.len.Goals as goal

pub returns-clause-value : goal.returns-clause-value
returns-clause-value g c = rw (← c.self.view_is) (sym (length-filled _ _ c.self.invariant.filled))
