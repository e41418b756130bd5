use Rattle.std.proofs.Common.{◌<◌}
use Rattle.chunk_list.proofs.ListLemmas.{place-open, push-kept, push-items}
use Rattle.chunk_list.proofs.list.ChunkList.push_reserved.Goals as goal

pub push_reserved-requires : goal.push_reserved-requires
push_reserved-requires g c =
    let some : 0 < c.self.inside.room = rw (← c.self.view_is) at c.requires in
    place-open _ _ _ c.self.invariant c.index_mut.result.now some c.index_mut.ensures.value

pub invariant_of-self : goal.invariant_of-self
invariant_of-self g c =
    let some : 0 < c.self.inside.room = rw (← c.self.view_is) at c.requires in
    push-kept _ _ _ c.self.invariant c.index_mut.result.now c.push_reserved.new.self c.args.value some c.index_mut.ensures.value
    c.push_reserved.ensures.items c.push_reserved.ensures.capacity

pub returns-clause-items : goal.returns-clause-items
returns-clause-items g c =
    let some : 0 < c.self.inside.room = rw (← c.self.view_is) at c.requires in
    rw (← c.self.view_is) (push-items _ _ _ c.self.invariant c.index_mut.result.now c.push_reserved.new.self c.args.value some c.index_mut.ensures.value
    c.push_reserved.ensures.items)
