use Rattle.std.proofs.Common.{◌<◌, arith}
use Rattle.chunk_list.proofs.ListLemmas.{counted, chunk-there, place-there, item-there}
use Rattle.chunk_list.proofs.list.ChunkListIndexUsize.index.Goals as goal

pub index-chunk-requires : goal.index-chunk-requires
index-chunk-requires g c =
    let within : c.args.place < c.self.inside.len = rw (counted _ _ _ c.self.invariant) (rw (← c.self.view_is) at c.requires) in
    omega (arith, chunk-there _ _ _ c.self.invariant c.args.place within, c.self.inside.chunks.ok.0)

pub index-requires : goal.index-requires
index-requires g c =
    let within : c.args.place < c.self.inside.len = rw (counted _ _ _ c.self.invariant) (rw (← c.self.view_is) at c.requires) in
    place-there _ _ _ c.self.invariant c.args.place c.index-chunk.result.now within c.index-chunk.ensures

pub returns : goal.returns
returns g c =
    let within : c.args.place < c.self.inside.len = rw (counted _ _ _ c.self.invariant) (rw (← c.self.view_is) at c.requires) in
    rw (← c.self.view_is) (item-there _ _ _ c.self.invariant c.args.place c.index-chunk.result.now c.index.result.now within c.index-chunk.ensures
    c.index.ensures)
