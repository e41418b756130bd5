use Rattle.std.proofs.Common.{◌<◌, length, refl, sym, arith}
use Rattle.std.proofs.lemmas.Option.{slice_get_read, slice_get_past}
use Rattle.chunk_list.proofs.ListLemmas.{counted}
use Rattle.chunk_list.proofs.list.ChunkList.get.Goals as goal

pub index-requires : goal.index-requires
index-requires g c = rw (← c.self.view_is) (omega (arith, c.if-place-self.true, counted _ _ _ c.self.invariant))

pub returns-then-place-self : goal.returns-then-place-self
returns-then-place-self g c =
    let items = c.args.self.now.items in
    let within : c.args.place < length items = rw (← c.self.view_is) (omega (arith, c.if-place-self.true, counted _ _ _ c.self.invariant)) in
    sym (slice_get_read items (length items) c.args.place c.index.result.now refl within c.index.ensures)

pub returns-else-place-self : goal.returns-else-place-self
returns-else-place-self g c =
    rw (← c.self.view_is) (sym (slice_get_past _ c.args.place (omega (arith, c.if-place-self.false, counted _ _ _ c.self.invariant))))
