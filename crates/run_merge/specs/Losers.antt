-- A tree that keeps the loser of each game. Who won below each node is not kept, but it is so of some list.
use Rattle.std.specs.Prelude.{◌≡◌, ℕ, suc, ◌+◌, ◌-◌, ◌*◌, ◌/◌, ◌<◌, ◌⊎◌, List, length, Option, get_or}
use Rattle.run_merge.specs.Tournaments.{up, IsAbove, HasLeaves, IsPlayed, IsWon}
use Rattle.keybytes.specs.declared.pair.Pair.{Pair}

-- the loser of the game at a node
abbrev pub IsLoser : List ℕ → ℕ → ℕ → Type 0
IsLoser wins loser n =
    ((get_or wins n 0 ≡ get_or wins (2 * n) 0) × (loser ≡ get_or wins (2 * n + 1) 0))
    ⊎ ((get_or wins n 0 ≡ get_or wins (2 * n + 1) 0) × (loser ≡ get_or wins (2 * n) 0))

-- node 0 names the winner of all, and each node above it the loser of its game
pub record IsLost (heads : List (Option Pair)) (nodes : List ℕ) : Type 0 where
  pub wins : List ℕ
  pub won : IsWon heads wins
  pub long : length nodes ≡ length heads
  pub first : 0 < length heads → get_or nodes 0 0 ≡ get_or wins 1 0
  pub losers : (n : ℕ) → 0 < n → n < length heads → IsLoser wins (get_or nodes n 0) n

-- the node beside a node
abbrev pub beside : ℕ → ℕ
beside node = 4 * (node / 2) + 1 - node

-- the games are played up to a node, which this head won; each node above names who waits on the other side
pub record IsReplay (heads : List (Option Pair)) (nodes : List ℕ) (node winner : ℕ) : Type 0 where
  pub wins : List ℕ
  pub tree : HasLeaves heads wins
  pub long : length nodes ≡ length heads
  pub here : get_or wins node 0 ≡ winner
  pub played : (n : ℕ) → 0 < n → n < length heads → (IsAbove n node → ⊥) → IsPlayed heads wins n
  pub losers : (n : ℕ) → 0 < n → n < length heads → (IsAbove n node → ⊥) → IsLoser wins (get_or nodes n 0) n
  pub waiting : (k : ℕ) → 1 < up k node → get_or nodes (up (suc k) node) 0 ≡ get_or wins (beside (up k node)) 0
