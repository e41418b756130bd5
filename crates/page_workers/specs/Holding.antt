-- What a worker's maker and spools hold of the copies that it took: of each index the pairs in closed runs, and those in no run yet.
use Rattle.std.specs.Prelude.{◌≡◌, ℕ, ◌+◌, ◌*◌, ◌<◌, ◌≤◌, ◌%◌, List, [], ◌++◌, length, get_or, IsPermutation}
use Rattle.keybytes.specs.Keys.{KeySpecValue}
use Rattle.keybytes.specs.declared.pair.Pair.{Pair}
use Rattle.heap_table.specs.Images.{ImageValue}
use Rattle.run_spool.specs.Spools.{NoneEmpty, all_pairs}
use Rattle.run_maker.specs.Spooling.{HasFullRunsMore}
use Rattle.run_maker.specs.Making.{Holdings, AddsAt, held_at, spec_at}
use Rattle.page_workers.specs.ImagePairs.{HavePairs}

-- each index is held with the pairs of these images more, and closes a run as soon as 4,096 are in none
abbrev pub TakesAll : List KeySpecValue → List ImageValue → Holdings → Holdings → Type 0
TakesAll specs images old new = (i : ℕ) → i < length specs → (made : List Pair) → HavePairs (spec_at specs i) images made → AddsAt i made old new

-- each index is held with the pairs of these images more, and with the first of those of the last ones
abbrev pub TakesUpTo : List KeySpecValue → List ImageValue → List ImageValue → Holdings → Holdings → Type 0
TakesUpTo specs images last old new =
    (i : ℕ) → i < length specs → (made next : List Pair) → HavePairs (spec_at specs i) images made → HavePairs (spec_at specs i) last next
    → (first : List Pair) × (others : List Pair) × (next ≡ first ++ others) × AddsAt i (made ++ first) old new

-- index i is held with these pairs more, and none is left in an open run: each closed run more has 4,096 of them, but perhaps the last
pub record HoldsMoreAt (i : ℕ) (made : List Pair) (old new : Holdings) : Type 0 where
  pub all : IsPermutation (held_at i old ++ made) (held_at i new)
  pub enough : 4096 * length (get_or old.runs i []) + (length (get_or old.begun i []) + length made) ≤ 4096 * length (get_or new.runs i [])
  pub few : 4096 * length (get_or new.runs i []) < 4096 * length (get_or old.runs i []) + (length (get_or old.begun i []) + length made) + 4096

-- each index is held with the pairs of these images more, in closed runs
abbrev pub HoldsMore : List KeySpecValue → List ImageValue → Holdings → Holdings → Type 0
HoldsMore specs images old new =
    (i : ℕ) → i < length specs → (made : List Pair) → HavePairs (spec_at specs i) images made → HoldsMoreAt i made old new

-- an index's pairs of these images are held, each as often as it is there, in the closed runs and in no run yet
pub record HoldsPairs (spec : KeySpecValue) (images : List ImageValue) (runs : List (List Pair)) (begun : List Pair) : Type 0 where
  pub made : List Pair
  pub have : HavePairs spec images made
  pub all : IsPermutation made (all_pairs runs ++ begun)

-- of the pairs of these images, which were taken since the last seal, those are in no run yet that don't fill one
pub record HoldsOpen (spec : KeySpecValue) (images : List ImageValue) (begun : List Pair) : Type 0 where
  pub last : List Pair
  pub since_seal : HavePairs spec images last
  pub open_run : length begun ≡ length last % 4096

-- each run that was closed since the last seal has 4,096 pairs; those before have pairs, and together as many as these images, the sealed ones
pub record HoldsClosed (spec : KeySpecValue) (sealed : List ImageValue) (runs : List (List Pair)) : Type 0 where
  pub earlier : List (List Pair)
  pub none_empty : NoneEmpty earlier
  pub since_seal : HasFullRunsMore earlier runs
  pub pairs : List Pair
  pub of_sealed : HavePairs spec sealed pairs
  pub as_many : length (all_pairs earlier) ≡ length pairs

-- the pairs that are held of index i, with those of these images behind them
abbrev pub AreHeldWith : List KeySpecValue → List ImageValue → Holdings → ℕ → List Pair → Type 0
AreHeldWith specs images held i pairs = (made : List Pair) × HavePairs (spec_at specs i) images made × (pairs ≡ held_at i held ++ made)
