-- A tree as its callers see it, and what they may ask of its pairs.
use Rattle.std.specs.Prelude.{◌≡◌, ◌⊎◌, ◌≤◌, ◌+◌, ℕ, Bool, not, ◌&&◌, List, [], ◌∷◌, ◌++◌, map, length, sum}
use Rattle.std.specs.List.{All, filter}
use Rattle.std.specs.Ordering.{nat_cmp, is_eq, is_lt}
use Rattle.std.specs.Cmp.Lexicographic.{slice_cmp}
use Rattle.keybytes.specs.declared.pair.Pair.{Pair}
use Rattle.keybytes.specs.declared.rid.Rid.{Rid}

-- inner nodes of one depth, from left to right: how many children each has that stands before the last, and how many the last has
pub record Level : Type 0 where
  pub before : List ℕ
  pub last : ℕ

-- the pairs in order, whether there is room for one more, the pairs of each leaf, from left to right, and the levels above the leaves, from the lowest up
pub record TreeValue : Type 0 where
  pub pairs : List Pair
  pub room : Bool
  pub leaves : List (List Pair)
  pub levels : List Level

-- the first key is less than the second
abbrev pub is_less : List ℕ → List ℕ → Bool
is_less a b = is_lt (slice_cmp nat_cmp a b)

-- that is the key of the pair
abbrev pub is_key : List ℕ → Pair → Bool
is_key key pair = is_eq (slice_cmp nat_cmp pair.key key)

-- the RIDs that have the key, in the order of the pairs
abbrev pub rids_of : List ℕ → List Pair → List Rid
rids_of key pairs = map (λ pair. pair.rid) (filter (is_key key) pairs)

-- the pairs whose key isn't less than lo, and less than hi
abbrev pub pairs_between : List ℕ → List ℕ → List Pair → List Pair
pairs_between lo hi pairs = filter (λ pair. not (is_less pair.key lo) && is_less pair.key hi) pairs

-- leaves that are filled from left to right: each but the last has 32 pairs, and the last has the rest, at least one unless it is alone
pub record AreFilled (leaves : List (List Pair)) : Type 0 where
  pub full : List (List Pair)
  pub rest : List Pair
  pub is : leaves ≡ full ++ rest ∷ []
  pub have_32 : All (λ leaf. length leaf ≡ 32) full
  pub few : length rest ≤ 32
  pub some : (full ≡ []) ⊎ (1 ≤ length rest)

-- parents of that many nodes, filled from left to right: each but the last has 32 children, and the last has the rest, at least one
pub record AreParents (nodes : ℕ) (level : Level) : Type 0 where
  pub have_32 : All (λ children. children ≡ 32) level.before
  pub few : level.last ≤ 32
  pub some : 1 ≤ level.last
  pub all : sum level.before + level.last ≡ nodes

-- levels that are filled above that many nodes: one node is the root, and several have a level of parents, which have theirs above them
abbrev pub AreFilledAbove : ℕ → List Level → Type 0
AreFilledAbove nodes [] = nodes ≡ 1
AreFilledAbove nodes (level ∷ levels) = (2 ≤ nodes) × AreParents nodes level × AreFilledAbove (length level.before + 1) levels
