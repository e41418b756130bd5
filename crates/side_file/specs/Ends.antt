-- What a contract sees of the ends of a ring, and which ring an end belongs to.
use Rattle.std.specs.Prelude.{◌≡◌, ℕ, ◌≤◌, List, ◌++◌, take, drop}
use denote.RawPtr.{Ptr}
use mathlib.Core.List.{IsPrefix}
use Rattle.std.specs.declared.alloc.Global.{Global}
use Rattle.rtrb.specs.declared.producer.Producer.{Producer}
use Rattle.rtrb.specs.declared.consumer.Consumer.{Consumer}
use Rattle.rtrb.specs.Ring.{sent, received, known_free, known_items, producer_capacity}

-- a ring, by its memory, its capacity and its ghost names
pub record RingId : Type 0 where
  pub words : Ptr
  pub slots : Ptr
  pub names : ℕ × (ℕ × ℕ)
  pub heap : Global

-- the end that puts: its ring, all that it put since the ring was made, and the places that it knows to be free
pub record PutEnd (T : Type 0) : Type 0 where
  pub ring : RingId
  pub capacity : ℕ
  pub sent : List T
  pub free : ℕ

-- the end that takes: its ring, all that it took since the ring was made, and what it has seen in the ring, in order
pub record TakeEnd (T : Type 0) : Type 0 where
  pub ring : RingId
  pub received : List T
  pub known : List T

module _ {T P : Type 0} where
  abbrev pub ring_put : Producer T Global P → RingId
  ring_put p = record { words = p.end.words; slots = p.end.slots; names = p.end.names; heap = p.end.heap }

  abbrev pub ring_take : Consumer T Global P → RingId
  ring_take c = record { words = c.end.words; slots = c.end.slots; names = c.end.names; heap = c.end.heap }

  abbrev pub put_end : Producer T Global P → PutEnd T
  put_end p = record { ring = ring_put p; capacity = producer_capacity p; sent = sent p; free = known_free p }

  abbrev pub take_end : Consumer T Global P → TakeEnd T
  take_end c = record { ring = ring_take c; received = received c; known = known_items c }

module _ {T : Type 0} where
  -- the first n that it has seen are taken
  abbrev pub after_taking : ℕ → TakeEnd T → TakeEnd T
  after_taking n end = record { ring = end.ring; received = end.received ++ take n end.known; known = drop n end.known }

  -- nothing was put, and no place that was known to be free is lost
  pub record PutEndLooked (old new : PutEnd T) : Type 0 where
    pub ring : new.ring ≡ old.ring
    pub capacity : new.capacity ≡ old.capacity
    pub sent : new.sent ≡ old.sent
    pub free : old.free ≤ new.free

  -- nothing was taken, and more may have been seen
  pub record TakeEndLooked (old new : TakeEnd T) : Type 0 where
    pub ring : new.ring ≡ old.ring
    pub received : new.received ≡ old.received
    pub known : IsPrefix old.known new.known
