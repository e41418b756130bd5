-- Pairs beside one of the same key.
use Rattle.std.proofs.Common.{◌≡◌, ℕ, List}
use Rattle.keybytes.specs.declared.pair.Pair.{Pair}
use Rattle.tree_nodes.specs.Lists.{In}

-- another pair with p's key
pub record Other (p : Pair) (pairs : List Pair) : Type 0 where
  pub other : Pair
  pub there : In other pairs
  pub key_is : other.key ≡ p.key
  pub apart : other ≡ p → ⊥

-- each pair that has the key has another beside it
pub record NoOnly (key : List ℕ) (pairs : List Pair) : Type 0 where
  pub others : (p : Pair) → In p pairs → p.key ≡ key → Other p pairs
