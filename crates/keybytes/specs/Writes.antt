-- Bytes written over those that stand at a place.
use Rattle.std.specs.Prelude.{ℕ, ◌+◌, List, ◌++◌, length, take, drop}

-- an area with bytes over those that stand at a place
abbrev pub overwritten : ℕ → List ℕ → List ℕ → List ℕ
overwritten at new bytes = take at bytes ++ (new ++ drop (at + length new) bytes)
