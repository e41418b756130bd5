-- What the end of a ring keeps that takes entries.
use Rattle.std.specs.Prelude.{◌≡◌, ℕ, ◌+◌, ◌^◌, ◌<◌, ◌≤◌, List, [], ◌++◌, length, take}
use Rattle.std.specs.declared.alloc.Global.{Global}
use Rattle.rtrb.specs.declared.producer.Producer.{Producer}
use Rattle.rtrb.specs.declared.consumer.Consumer.{Consumer}
use Rattle.rtrb.specs.Ring.{sent, received, known_free, known_items, producer_capacity}
use Rattle.side_file.specs.declared.entry.Entry.{Entry}
use Rattle.side_file.specs.declared.portion.Portion.{Portion}
use Rattle.side_file.specs.Ends.{PutEnd, TakeEnd, ring_put, ring_take}
use Rattle.side_file.specs.Portions.{entries_of}

module _ {P : Type 0} where
  -- the end that puts, by the entries of its portions
  abbrev pub put_entries : Producer Portion Global P → PutEnd Entry
  put_entries p = record { ring = ring_put p; capacity = producer_capacity p; sent = entries_of (sent p); free = known_free p }

  -- the end that takes: of the entries that came so many were given out, and the others are at hand
  abbrev pub take_entries : ℕ → List Entry → Consumer Portion Global P → TakeEnd Entry
  take_entries taken hand c =
      record { ring = ring_take c; received = take taken (entries_of (received c)); known = hand ++ entries_of (known_items c) }

-- portions went from the ring to hand, in order
pub record Brings (gone ahead : List Portion) (hand : List Entry) (new_gone new_ahead : List Portion) (new_hand : List Entry) : Type 0 where
  pub portions : List Portion
  pub came : new_gone ≡ gone ++ portions
  pub left : ahead ≡ portions ++ new_ahead
  pub entries : new_hand ≡ hand ++ entries_of portions

-- what came and wasn't given out is at hand, and all that is known is counted
pub record IsWhole (gone ahead : List Portion) (hand : List Entry) (taken known : ℕ) : Type 0 where
  pub whole : take taken (entries_of gone) ++ hand ≡ entries_of gone
  pub taken_came : taken ≤ length (entries_of gone)
  pub counted : known ≡ length hand + length (entries_of ahead)
  pub countable : taken + known < 2 ^ 60

-- and something is at hand wherever something is known; the ring has 256 places
pub record IsEntryEnd (gone ahead : List Portion) (hand : List Entry) (taken known capacity : ℕ) : Type 0 where
  pub is_whole : IsWhole gone ahead hand taken known
  pub first : hand ≡ [] → ahead ≡ []
  pub places : capacity ≡ 256
