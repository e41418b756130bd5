-- How the items of a queue lie in its chunks.
use Rattle.std.specs.Prelude.{◌≡◌, ℕ, ◌+◌, ◌-◌, ◌*◌, ◌^◌, ◌<◌, ◌≤◌, min, List, [], ◌++◌, length, All, vec_len}
use Rattle.std.specs.Global.{Global}
use Rattle.std.specs.List.{flat_map}
use Rattle.std.specs.VecDeque.{deque_items, deque_len, deque_capacity}
use Rattle.std.specs.declared.collections.VecDeque.{VecDeque}
use Rattle.chunk_list.specs.declared.chunks.Chunks.{Chunks}

module _ {T : Type 0} where
  -- the items of the first chunk, of the full ones, of the last
  abbrev pub chunk_items : Chunks T → List T
  chunk_items chunks = chunks.first.items ++ (flat_map deque_items chunks.full.items ++ chunks.last.items)

  -- how many more items find a place in a chunk
  abbrev pub open_places : VecDeque T Global → ℕ
  open_places chunk = min 1024 (deque_capacity chunk) - deque_len chunk

  -- how many more find one without memory
  abbrev pub places : Chunks T → ℕ
  places chunks = 1024 * vec_len chunks.spare + open_places chunks.last

  abbrev pub IsFull : VecDeque T Global → Type 0
  IsFull chunk = deque_len chunk ≡ 1024

  abbrev pub IsSpare : VecDeque T Global → Type 0
  IsSpare chunk = (chunk.items ≡ []) × (1024 ≤ deque_capacity chunk)

  -- no chunk has more than 1,024 items, those between the first and the last have as many, and there is room for the pointer
  -- to each spare one once it is full
  pub record AreKept (chunks : Chunks T) : Type 0 where
    pub first : deque_len chunks.first ≤ 1024
    pub full : All IsFull chunks.full.items
    pub last : deque_len chunks.last ≤ 1024
    pub in_use : 0 < deque_capacity chunks.last → 1024 ≤ deque_capacity chunks.last
    pub spare : All IsSpare chunks.spare.items
    pub pointers : deque_len chunks.full + vec_len chunks.spare ≤ deque_capacity chunks.full

  -- what a queue keeps: its room lies in its chunks, and its items and its room can be counted
  pub record IsQueue (chunks : Chunks T) (len room : ℕ) : Type 0 where
    pub kept : AreKept chunks
    pub counted : len ≡ length (chunk_items chunks)
    pub has_room : room ≤ places chunks
    pub countable : len + room < 2 ^ 63
