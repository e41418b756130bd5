-- The pairs of an index: their order, sets of them, and how they stand for the columns of rows.
use Rattle.std.specs.Prelude.{◌≡◌, ◌<◌, ℕ, List, length, get_or, map, Option, Some, None}
use Rattle.std.specs.declared.cmp.Ordering.{Ordering}
use Rattle.std.specs.declared.cmp.Ordering.TheVariants.{Less}
use Rattle.std.specs.Ordering.{nat_cmp, then_cmp, ordering_then, on}
use Rattle.std.specs.Cmp.Lexicographic.{slice_cmp}
use Rattle.std.specs.List.{All}
use Rattle.std.specs.Option.{option_map}
use Rattle.std.specs.FinSet.{FinSet}
use Rattle.std.specs.FinMap.{from_entries, insert, remove, keys}
use Rattle.keybytes.specs.Keys.{KeySpecValue, key_of, key_there, key_columns, IsKeyOf, IsRowOf}
use Rattle.keybytes.specs.Cells.{columns_cmp}
use Rattle.keybytes.specs.Rids.{rid_cmp}
use Rattle.keybytes.specs.declared.cell.Cell.{Cell}
use Rattle.keybytes.specs.declared.pair.Pair.{Pair}
use Rattle.keybytes.specs.declared.rid.Rid.{Rid}

-- by key, then by RID
abbrev pub pair_cmp : Pair → Pair → Ordering
pair_cmp = then_cmp (on (λ pair. pair.key) (slice_cmp nat_cmp)) (on (λ pair. pair.rid) rid_cmp)

-- the pair of what stands at a RID, if it is a row that the index takes
abbrev pub pair_with : KeySpecValue → Rid → Option (List Cell) → Option Pair
pair_with spec rid row = option_map (λ key. record { key = key; rid = rid }) (key_there spec row)

-- the pairs as a set
abbrev pub set_of : List Pair → FinSet pair_cmp
set_of pairs = from_entries (map (λ pair. (pair, tt)) pairs)

-- the pairs stand in order, each once
abbrev pub AreOrdered : List Pair → Type 0
AreOrdered pairs = pairs ≡ keys (set_of pairs)

-- the set with one pair more, if there is one
abbrev pub with_pair : Option Pair → FinSet pair_cmp → FinSet pair_cmp
with_pair None pairs = pairs
with_pair (Some pair) pairs = insert pairs pair tt

-- the set without a pair, if there is one
abbrev pub without_pair : Option Pair → FinSet pair_cmp → FinSet pair_cmp
without_pair None pairs = pairs
without_pair (Some pair) pairs = remove pairs pair

-- each pair's key is that of a row
abbrev pub HaveKeysOf : KeySpecValue → List Pair → Type 0
HaveKeysOf spec pairs = All (λ pair. IsKeyOf spec pair.key) pairs

-- whatever rows their keys are of, the first pair has the lesser columns, or the same ones and the lesser RID
abbrev pub IsBefore : KeySpecValue → Pair → Pair → Type 0
IsBefore spec p q =
    (a b : List Cell) → IsRowOf spec a → IsRowOf spec b → key_of spec a ≡ p.key → key_of spec b ≡ q.key
    → ordering_then (columns_cmp spec.columns (key_columns spec a) (key_columns spec b)) (rid_cmp p.rid q.rid) ≡ Less

-- the pairs stand in the order of their columns, then of their RIDs
abbrev pub AreInColumnOrder : KeySpecValue → List Pair → Type 0
AreInColumnOrder spec pairs = (i j : ℕ) (d : Pair) → i < j → j < length pairs → IsBefore spec (get_or pairs i d) (get_or pairs j d)
