-- The rooms of a table's pages, and the tree that has them as its leaves.
use Rattle.std.specs.Prelude.{◌≡◌, ℕ, ◌+◌, ◌*◌, ◌^◌, ◌<◌, ◌≤◌, max, List, [], ◌∷◌, ◌++◌, length, get_or, drop, Option, Some, None}

-- for each page the most bytes that an insert there may have, and how many more pages can be added without memory
pub record RoomsValue : Type 0 where
  pub rooms : List ℕ
  pub spare : ℕ

-- the rooms of the pages below the last one, and that of the last one, if there is a page
abbrev pub with_last : RoomsValue → Option ℕ → RoomsValue
with_last below None = record { rooms = below.rooms; spare = below.spare + 1 }
with_last below (Some room) = record { rooms = below.rooms ++ room ∷ []; spare = below.spare }

-- each node that has two below it, 2 n and 2 n + 1, is the greater of them
abbrev pub IsTournament : List ℕ → Type 0
IsTournament nodes =
    (n : ℕ) → 0 < n → 2 * n + 1 < length nodes → get_or nodes n 0 ≡ max (get_or nodes (2 * n) 0) (get_or nodes (2 * n + 1) 0)

-- a full tree, whose leaves are the rooms and then zeros
pub record IsRooms (nodes : List ℕ) (leaves height count : ℕ) : Type 0 where
  pub tournament : IsTournament nodes
  pub long : length nodes ≡ 2 * leaves
  pub full : 0 < leaves → leaves ≡ 2 ^ height
  pub counted : count ≤ leaves
  pub unused : (k : ℕ) → count ≤ k → get_or (drop leaves nodes) k 0 ≡ 0

-- the first node from that start on with so much room
pub record IsFirstFrom (nodes : List ℕ) (start len node : ℕ) : Type 0 where
  pub after : start ≤ node
  pub passes : len ≤ get_or nodes node 0
  pub first : (n : ℕ) → start ≤ n → n < node → get_or nodes n 0 < len
