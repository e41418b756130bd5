use Rattle.std.proofs.Common.{◌<◌, arith, refl}
use Rattle.chunk_list.proofs.ListLemmas.{counted, chunk-there, place-there, item-there, write-kept, write-items}
use Rattle.chunk_list.proofs.list.ChunkListIndexMutUsize.index_mut.Goals as goal

pub index_mut-chunk-requires : goal.index_mut-chunk-requires
index_mut-chunk-requires g c =
    let within : c.args.place < c.self.inside.len = rw (counted _ _ _ c.self.invariant) (rw (← c.self.view_is) at c.requires) in
    omega (arith, chunk-there _ _ _ c.self.invariant c.args.place within, c.self.inside.chunks.ok.0)

pub index_mut-requires : goal.index_mut-requires
index_mut-requires g c =
    let within : c.args.place < c.self.inside.len = rw (counted _ _ _ c.self.invariant) (rw (← c.self.view_is) at c.requires) in
    place-there _ _ _ c.self.invariant c.args.place c.index_mut-chunk.result.now within c.index_mut-chunk.ensures.value

pub invariant_of-self-lent : goal.invariant_of-self-lent
invariant_of-self-lent g c w =
    let within : c.args.place < c.self.inside.len = rw (counted _ _ _ c.self.invariant) (rw (← c.self.view_is) at c.requires) in
    write-kept _ _ _ c.self.invariant c.args.place c.index_mut-chunk.result.now w within c.index_mut-chunk.ensures.value

pub returns : goal.returns
returns g c =
    let within : c.args.place < c.self.inside.len = rw (counted _ _ _ c.self.invariant) (rw (← c.self.view_is) at c.requires) in (
      (
        refl,
        λ w. rw (
          ← c.self.view_is,
          write-items _ _ _ c.self.invariant c.args.place c.index_mut-chunk.result.now w within c.index_mut-chunk.ensures.value,
        ) refl,
      ),
      record {
        writes_back = tt;
        value = rw (← c.self.view_is) (item-there _ _ _ c.self.invariant c.args.place c.index_mut-chunk.result.now c.index_mut.result.now within
            c.index_mut-chunk.ensures.value c.index_mut.ensures.value);
      },
    )
