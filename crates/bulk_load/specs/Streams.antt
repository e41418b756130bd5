-- The streams of a load: what each sender puts into its ring, in batches.
use Rattle.std.specs.Prelude.{◌≡◌, ℕ, Bool, List, [], ◌∷◌, ◌++◌, get_or, drop, Option, None}
use Rattle.std.specs.List.{flat_map}
use Rattle.keybytes.specs.Faults.{first_cause}
use Rattle.keybytes.specs.declared.fault.Fault.{Fault}
use Rattle.keybytes.specs.declared.pair.Pair.{Pair}
use Rattle.spool_ledger.specs.Accounts.{Stake}

-- the stream of that number: all that one sender is to put
abbrev pub stream_at : List (List Pair) → ℕ → List Pair
stream_at streams number = get_or streams number []

-- a part of the stream of that number: the place of its first pair and the place behind its last, its pairs, whether it is the last part,
-- and why the stream breaks off behind it
pub record BatchValue : Type 0 where
  pub number : ℕ
  pub start : ℕ
  pub end : ℕ
  pub pairs : List Pair
  pub last : Bool
  pub fault : Option Fault

-- the pairs stand there in the stream
abbrev pub IsPart : List Pair → ℕ → ℕ → List Pair → Type 0
IsPart stream start end pairs = drop start stream ≡ pairs ++ drop end stream

-- the pairs of batches, one after the other
abbrev pub pairs_of : List BatchValue → List Pair
pairs_of batches = flat_map (λ batch. batch.pairs) batches

-- the fault of the first batch that has one
abbrev pub first_mark : List BatchValue → Option Fault
first_mark [] = None
first_mark (batch ∷ batches) = first_cause batch.fault (first_mark batches)

-- what was put is the beginning of the stream
abbrev pub IsBeginning : List Pair → List BatchValue → ℕ → Type 0
IsBeginning stream sent count = stream ≡ pairs_of sent ++ drop count stream

-- a sender: the number of its stream, all that it put, the place behind the last pair that it put, the stakes of its spools, whether it put its
-- last batch, and why it broke off
pub record SenderValue : Type 0 where
  pub number : ℕ
  pub sent : List BatchValue
  pub count : ℕ
  pub stakes : List (Option Stake)
  pub done : Bool
  pub fault : Option Fault

-- the end of a stream that takes: the pairs that are left, the batches that came, how many it handed back, the places for more of these, and
-- why it broke off
pub record StreamValue : Type 0 where
  pub pairs : List Pair
  pub received : List BatchValue
  pub returned : ℕ
  pub places : ℕ
  pub fault : Option Fault
