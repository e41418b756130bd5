-- A tree of games between heads: each node names the head that won below it.
use Rattle.std.specs.Prelude.{◌≡◌, ℕ, zero, suc, ◌+◌, ◌*◌, ◌/◌, ◌<◌, ◌⊎◌, List, length, Option, get_or}
use Rattle.run_merge.specs.Leading.{MayLead}
use Rattle.keybytes.specs.declared.pair.Pair.{Pair}

-- of two heads this is one that may be given first
pub record IsWinner (heads : List (Option Pair)) (winner left right : ℕ) : Type 0 where
  pub one : (winner ≡ left) ⊎ (winner ≡ right)
  pub leads_left : MayLead heads winner left
  pub leads_right : MayLead heads winner right

-- the node k levels above a node
abbrev pub up : ℕ → ℕ → ℕ
up zero node = node
up (suc k) node = up k (node / 2)

-- a node lies on the way from another one to the root, and is not that one
abbrev pub IsAbove : ℕ → ℕ → Type 0
IsAbove above node = (k : ℕ) × (above ≡ up (suc k) node)

-- the leaves, which are the second half of the nodes, name the heads in order
pub record HasLeaves (heads : List (Option Pair)) (nodes : List ℕ) : Type 0 where
  pub long : length nodes ≡ 2 * length heads
  pub inside : (n : ℕ) → n < length nodes → get_or nodes n 0 < length heads
  pub leaves : (k : ℕ) → k < length heads → get_or nodes (length heads + k) 0 ≡ k

-- the game at a node was won by the head that it names
abbrev pub IsPlayed : List (Option Pair) → List ℕ → ℕ → Type 0
IsPlayed heads nodes n = IsWinner heads (get_or nodes n 0) (get_or nodes (2 * n) 0) (get_or nodes (2 * n + 1) 0)

-- every game is played
pub record IsWon (heads : List (Option Pair)) (nodes : List ℕ) : Type 0 where
  pub tree : HasLeaves heads nodes
  pub played : (n : ℕ) → 0 < n → n < length heads → IsPlayed heads nodes n
