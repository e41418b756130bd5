-- What is listed of an index.
use Rattle.std.specs.Prelude.{◌≡◌, ℕ, List, map, slice_get, Some}
use Rattle.btree.specs.TreeValue.{pairs_between, rids_of}
use Rattle.heap_log.specs.declared.outcome.Outcome.{Outcome}
use Rattle.heap_log.specs.declared.outcome.Outcome.TheVariants.{Ready}
use Rattle.csv_index.specs.declared.search.Search.{Search}
use Rattle.csv_index.specs.declared.search.Search.TheVariants.{Key, Between}
use Rattle.keybytes.specs.declared.pair.Pair.{Pair}
use Rattle.keybytes.specs.declared.rid.Rid.{Rid}
use Rattle.ready_indexes.specs.Indexes.{ReadyValue}

-- the places of the pairs whose key isn't less than the first one, and less than the other, in the order of the index
abbrev pub rids_between : List ℕ → List ℕ → List Pair → List Rid
rids_between from to pairs = map (λ pair. pair.rid) (pairs_between from to pairs)

-- the places of the pairs that are looked for: those of the key, or those of the keys from one on and before another
abbrev pub rids_found : Search → List Pair → List Rid
rids_found (Key key) pairs = rids_of key pairs
rids_found (Between from to) pairs = rids_between from to pairs

-- these are the places of what is looked for in the ready index of that number
pub record AreFoundAt (ready : List ReadyValue) (number : ℕ) (search : Search) (rids : List Rid) : Type 0 where
  pub index : ReadyValue
  pub there : slice_get ready number ≡ Some index
  pub found : rids ≡ rids_found search index.pairs

-- so they are in the index that is ready by the first verdict
pub record AreFoundIn (ready : List ReadyValue) (verdicts : List Outcome) (search : Search) (rids : List Rid) : Type 0 where
  pub number : ℕ
  pub first : slice_get verdicts 0 ≡ Some (Ready number)
  pub found : AreFoundAt ready number search rids
