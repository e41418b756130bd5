-- The queue that deals ranges to the workers of a build.
use Rattle.std.specs.Prelude.{ℕ, ◌<◌, List, [], ◌∷◌}

-- each number may be a range's: a plan has at most 256
abbrev pub AreDealt : List ℕ → Type 0
AreDealt [] = Unit {0}
AreDealt (number ∷ numbers) = (number < 256) × AreDealt numbers
