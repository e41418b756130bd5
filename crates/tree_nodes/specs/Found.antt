-- What a search found.
use Rattle.std.specs.Prelude.{◌≡◌, ℕ, ◌<◌, ◌≤◌, Bool, true, false, List, length}
use Rattle.std.specs.List.{insert, remove}
use Rattle.tree_nodes.specs.Lists.{has, put, without}

-- x stands at that place
pub record IsAt {X : Type 0} (lt : X → X → Bool) (x : X) (ys : List X) (at : ℕ) : Type 0 where
  pub within : at < length ys
  pub there : has lt x ys ≡ true
  pub put : put lt x ys ≡ ys
  pub without : without lt x ys ≡ remove ys at

-- x doesn't stand there, and that is where it belongs
pub record IsGap {X : Type 0} (lt : X → X → Bool) (x : X) (ys : List X) (at : ℕ) : Type 0 where
  pub within : at ≤ length ys
  pub absent : has lt x ys ≡ false
  pub put : put lt x ys ≡ insert ys at x
  pub without : without lt x ys ≡ ys
