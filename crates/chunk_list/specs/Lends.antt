-- What a list ends as, where a `&mut` to one of its items is returned.
use Rattle.std.specs.Prelude.{ℕ, slice_set}
use Rattle.std.specs.Borrow.{Lends, Fml, RattleType, MutBor}
use Rattle.chunk_list.specs.ChunkValue.{ChunkValue}
use Rattle.chunk_list.specs.contracts.list.ChunkList.{the_row}

-- the list with another item at that place
abbrev pub with_item : {T : Type 0} → ChunkValue T → ℕ → T → ChunkValue T
with_item list place item = record { items = slice_set list.items place item; room = list.room }

-- once the borrow r ends, the place has the last item written through r
abbrev pub lends_item : (T : RattleType) → MutBor (ChunkValue T.Denot) → ℕ → MutBor T.Denot → Fml
lends_item T list place r = Lends (the_row T) T list r (with_item list.now place)
