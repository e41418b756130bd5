-- What a side-file keeps of its counts.
use Rattle.std.specs.Prelude.{◌≡◌, ℕ, ◌+◌, ◌-◌, ◌^◌, ◌<◌, ◌≤◌, List, length, drop}
use Rattle.std.specs.List.{All}
use Rattle.side_file.specs.declared.portion.Portion.{Portion}
use Rattle.side_file.specs.Portions.{entries_of, HasSome}

-- the last n of them
abbrev pub last_ones : {X : Type 0} → ℕ → List X → List X
last_ones n xs = drop (length xs - n) xs

-- the ring has 256 places, each portion that was sent has an entry, what was fed was sent, and all can be counted
pub record IsKept (capacity : ℕ) (portions : List Portion) (put fed left room : ℕ) : Type 0 where
  pub ring : capacity ≡ 256
  pub some : All HasSome portions
  pub counted : put ≡ length (entries_of portions)
  pub fed_was_sent : fed ≤ put
  pub countable : put + left + room < 2 ^ 60
