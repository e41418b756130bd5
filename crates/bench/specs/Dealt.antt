-- What is dealt evenly.
use Rattle.std.specs.Prelude.{ℕ, ◌*◌, ◌/◌, max, min}

-- how many of so many come before a part of so many
abbrev pub before : ℕ → ℕ → ℕ → ℕ
before all parts part = min (all * part / max parts 1) all
