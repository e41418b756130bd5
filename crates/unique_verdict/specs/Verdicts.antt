-- What a verdict says of the pairs.
use Rattle.std.specs.Prelude.{◌≡◌, ◌≤◌, ⊤, Bool, true, false, List, [], ◌∷◌, length}
use Rattle.keybytes.specs.declared.pair.Pair.{Pair}
use Rattle.tree_nodes.specs.Lists.{In}
use Rattle.tree_nodes.specs.Order.{is_before}
use Rattle.unique_verdict.specs.declared.verdict.Verdict.{Verdict}
use Rattle.unique_verdict.specs.declared.verdict.Verdict.TheVariants.{Unique, Shared}

-- no two pairs have one key
pub record IsUnique (pairs : List Pair) : Type 0 where
  pub alone : (p q : Pair) → In p pairs → In q pairs → p.key ≡ q.key → p ≡ q

-- two pairs have one key, and of any two that have one key the lower isn't below the first, nor the upper below the second
pub record IsLeast (pairs : List Pair) (first second : Pair) : Type 0 where
  pub first_there : In first pairs
  pub second_there : In second pairs
  pub apart : is_before first second ≡ true
  pub first_least : (p q : Pair) → In p pairs → In q pairs → p.key ≡ q.key → is_before p q ≡ true → is_before p first ≡ false
  pub second_least : (p q : Pair) → In p pairs → In q pairs → p.key ≡ q.key → is_before p q ≡ true → is_before q second ≡ false

-- the verdict that the pairs with a shared key tell, in order: where there are none keys are unique, else the first two have the least key
abbrev pub first_shared : List Pair → Verdict
first_shared [] = Unique
first_shared (only ∷ []) = Unique
first_shared (first ∷ second ∷ rest) = Shared first.key first.rid second.rid

-- whether that is the verdict
abbrev pub accepts : Verdict → Bool
accepts Unique = true
accepts (Shared key first second) = false

-- whether to tell it takes no memory: a key that it names has at most 24 bytes
abbrev pub IsShort : Verdict → Type 0
IsShort Unique = ⊤
IsShort (Shared key first second) = length key ≤ 24

abbrev pub IsVerdict : List Pair → Verdict → Type 0
IsVerdict pairs Unique = IsUnique pairs
IsVerdict pairs (Shared key first second) = IsLeast pairs (record { key = key; rid = first }) (record { key = key; rid = second })
