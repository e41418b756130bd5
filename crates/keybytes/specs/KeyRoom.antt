-- What a key keeps of its fields.
use Rattle.std.specs.Prelude.{ℕ, ◌≤◌}

-- a key has at most 812 bytes, and room for 24 without memory of its own
pub record HasRoom (len capacity : ℕ) : Type 0 where
  pub short : len ≤ 812
  pub inline : 24 ≤ capacity
