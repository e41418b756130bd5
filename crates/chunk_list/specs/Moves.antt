-- Chunks that go from one queue to another.
use Rattle.std.specs.Prelude.{◌≡◌, ℕ, ◌+◌, ◌≤◌, [], ◌++◌, take, drop, vec_len}
use Rattle.chunk_list.specs.declared.chunks.Chunks.{Chunks}

module _ {T : Type 0} where
  -- nothing changed but that a spare chunk may have come
  pub record KeepsSpare (old new : Chunks T) : Type 0 where
    pub first : new.first ≡ old.first
    pub full : new.full ≡ old.full
    pub last : new.last ≡ old.last
    pub spare : vec_len old.spare ≤ vec_len new.spare

  -- so many full chunks went from the front of one to the end of another, for spare ones of it
  pub record MovesFull (count : ℕ) (from to new_from new_to : Chunks T) : Type 0 where
    pub left : new_from.full.items ≡ drop count from.full.items
    pub moved : new_to.full.items ≡ to.full.items ++ take count from.full.items
    pub first : new_from.first ≡ from.first
    pub last : new_from.last ≡ from.last
    pub to_first : new_to.first ≡ to.first
    pub to_last : new_to.last ≡ to.last
    pub spare : vec_len from.spare ≤ vec_len new_from.spare
    pub to_spare : vec_len new_to.spare + count ≡ vec_len to.spare

  -- the last chunk went from one to another
  pub record MovesLast (from to new_from new_to : Chunks T) : Type 0 where
    pub left : new_from.last.items ≡ []
    pub moved : new_to.last.items ≡ from.last.items
    pub first : new_from.first ≡ from.first
    pub full : new_from.full ≡ from.full
    pub to_first : new_to.first ≡ to.first
    pub to_full : new_to.full ≡ to.full
