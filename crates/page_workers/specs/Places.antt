-- The places of a ring of copies.
use Rattle.std.specs.Prelude.{◌≡◌, ◌+◌, ◌≤◌, length}
use Rattle.side_file.specs.Ends.{PutEnd}

module _ {T : Type 0} where
  -- what a ring for four keeps at the end that puts: a place that was never used is known to be free
  pub record HasFourPlaces (end : PutEnd T) : Type 0 where
    pub capacity : end.capacity ≡ 4
    pub spare : end.free ≤ 4
    pub unused : 4 ≤ end.free + length end.sent
