-- The bytes of a list.
use Rattle.std.specs.Prelude.{ℕ, ◌<◌, List, get_or}

-- its numbers are below 256
abbrev pub AreBytes : List ℕ → Type 0
AreBytes bytes = (place : ℕ) → get_or bytes place 0 < 256
