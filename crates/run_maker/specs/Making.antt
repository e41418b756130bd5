-- What a maker holds of each index, and what its calls make of it.
use Rattle.std.specs.Prelude.{◌≡◌, ℕ, ◌<◌, ◌≤◌, false, List, [], ◌++◌, All, length, get_or, Option, None}
use Rattle.std.specs.Option.{option_to_list}
use Rattle.keybytes.specs.Keys.{KeySpecValue}
use Rattle.keybytes.specs.Pairs.{pair_with}
use Rattle.keybytes.specs.declared.cell.Cell.{Cell}
use Rattle.keybytes.specs.declared.kind.Kind.{Kind}
use Rattle.keybytes.specs.declared.pair.Pair.{Pair}
use Rattle.keybytes.specs.declared.rid.Rid.{Rid}
use Rattle.heap_table.specs.Images.{ImageValue}
use Rattle.run_spool.specs.Spools.{NoneEmpty, all_pairs}
use Rattle.run_maker.specs.ImagePairs.{HasPairs}
use Rattle.run_maker.specs.Spooling.{Spooled, Adds}

-- the table's columns, the specifications of the indexes, and the pairs of each index that are in no run yet
pub record MakerValue : Type 0 where
  pub schema : List Kind
  pub specs : List KeySpecValue
  pub begun : List (List Pair)

-- the specification of index i
abbrev pub spec_at : List KeySpecValue → ℕ → KeySpecValue
spec_at specs i = get_or specs i (record { kinds = []; columns = []; unique = false; condition = None })

-- spools that a maker may put runs into: none has an empty closed run, or a pair in its open run
pub record AreReady (runs : List (List (List Pair))) (open_runs : List (List Pair)) : Type 0 where
  pub none_empty : All NoneEmpty runs
  pub open_none : All (λ begun. begun ≡ []) open_runs

-- the closed runs of each index's spool, and its pairs that are in no run yet
pub record Holdings : Type 0 where
  pub runs : List (List (List Pair))
  pub begun : List (List Pair)

-- the pairs that are held of index i
abbrev pub held_at : ℕ → Holdings → List Pair
held_at i held = all_pairs (get_or held.runs i []) ++ get_or held.begun i []

-- index i is held with these pairs more
abbrev pub AddsAt : ℕ → List Pair → Holdings → Holdings → Type 0
AddsAt i made old new = Adds made (get_or old.runs i []) (get_or old.begun i []) (get_or new.runs i []) (get_or new.begun i [])

-- index i is held with the first of these pairs more, or with all or none of them
abbrev pub AddsFirst : ℕ → List Pair → Holdings → Holdings → Type 0
AddsFirst i made old new = (first : List Pair) × (others : List Pair) × (made ≡ first ++ others) × AddsAt i first old new

-- each index is held with the pair of a row more, if there is a row that it takes
abbrev pub TakesRow : List KeySpecValue → Rid → Option (List Cell) → Holdings → Holdings → Type 0
TakesRow specs rid row old new = (i : ℕ) → i < length specs → AddsAt i (option_to_list (pair_with (spec_at specs i) rid row)) old new

-- some indexes are held with the pair of a row more, if there is a row that they take, and the others as before
abbrev pub TakesRowPart : List KeySpecValue → Rid → Option (List Cell) → Holdings → Holdings → Type 0
TakesRowPart specs rid row old new = (i : ℕ) → i < length specs → AddsFirst i (option_to_list (pair_with (spec_at specs i) rid row)) old new

-- each index is held with the pairs of a copy's rows more
abbrev pub Takes : List KeySpecValue → ImageValue → Holdings → Holdings → Type 0
Takes specs image old new = (i : ℕ) → i < length specs → (made : List Pair) → HasPairs (spec_at specs i) image made → AddsAt i made old new

-- each index is held with the first pairs of a copy's rows more; no pair is lost, and no run is closed with fewer than 4,096
abbrev pub TakesPart : List KeySpecValue → ImageValue → Holdings → Holdings → Type 0
TakesPart specs image old new = (i : ℕ) → i < length specs → (made : List Pair) → HasPairs (spec_at specs i) image made → AddsFirst i made old new

-- what was in no run yet is a run of its own, in order
abbrev pub Seals : Holdings → List (List (List Pair)) → Type 0
Seals old runs = (i : ℕ) → i < length old.begun → Spooled (get_or old.begun i []) (get_or old.runs i []) (get_or runs i [])

-- these are held of index i
abbrev pub AreHeld : Holdings → ℕ → List Pair → Type 0
AreHeld held i pairs = pairs ≡ held_at i held

-- or are held with the pair of a row behind them, if there is a row that the index takes
abbrev pub AreHeldWithRow : List KeySpecValue → Rid → Option (List Cell) → Holdings → ℕ → List Pair → Type 0
AreHeldWithRow specs rid row held i pairs = pairs ≡ held_at i held ++ option_to_list (pair_with (spec_at specs i) rid row)

-- or with those of a copy's rows
abbrev pub AreHeldWithCopy : List KeySpecValue → ImageValue → Holdings → ℕ → List Pair → Type 0
AreHeldWithCopy specs image held i pairs = (made : List Pair) × HasPairs (spec_at specs i) image made × (pairs ≡ held_at i held ++ made)

-- of the first indexes this was made, of the others nothing yet
pub record Reached (made : ℕ → List (List Pair) → List Pair → List (List Pair) → List Pair → Type 0) (count : ℕ) (old new : Holdings) : Type 0 where
  pub done : (i : ℕ) → i < count → made i (get_or old.runs i []) (get_or old.begun i []) (get_or new.runs i []) (get_or new.begun i [])
  pub same_runs : (i : ℕ) → count ≤ i → get_or new.runs i [] ≡ get_or old.runs i []
  pub same_begun : (i : ℕ) → count ≤ i → get_or new.begun i [] ≡ get_or old.begun i []
