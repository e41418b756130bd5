-- Indexes of a table that are ready, as everybody sees them.
use Rattle.std.specs.Prelude.{◌≡◌, List, map}
use Rattle.std.specs.List.{All}
use Rattle.keybytes.specs.Keys.{KeySpecValue}
use Rattle.keybytes.specs.Pairs.{HaveKeysOf, AreInColumnOrder}
use Rattle.keybytes.specs.declared.pair.Pair.{Pair}
use Rattle.heap_log.specs.declared.record.LogRec.{LogRec}
use Rattle.heap_table.specs.TablePairs.{pairs_at_rest}

-- an index that is ready: what makes its keys, and its pairs in order
pub record ReadyValue : Type 0 where
  pub spec : KeySpecValue
  pub pairs : List Pair

-- each pair has the key of a row, and they stand in the order of the key's columns, then of their RIDs
pub record IsIndex (spec : KeySpecValue) (pairs : List Pair) : Type 0 where
  pub keys : HaveKeysOf spec pairs
  pub order : AreInColumnOrder spec pairs

-- an index with the pairs of the rows that stand and that it takes
abbrev pub index_now : List LogRec → KeySpecValue → ReadyValue
index_now log spec = record { spec = spec; pairs = pairs_at_rest spec log }

-- the ready indexes, each with the pairs of the rows that stand and that it takes
abbrev pub ready_now : List LogRec → List ReadyValue → List ReadyValue
ready_now log ready = map (λ index. index_now log index.spec) ready

-- each ready index has the pairs of the rows that stand and that it takes
abbrev pub FollowTable : List LogRec → List ReadyValue → Type 0
FollowTable log ready = All (λ index. index.pairs ≡ pairs_at_rest index.spec log) ready
