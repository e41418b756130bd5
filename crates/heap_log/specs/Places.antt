-- Which RIDs and transactions a log has places for: a write takes none but those of its RID and of its transaction.
use Rattle.std.specs.Prelude.{ℕ, ◌<◌, List, get_or}
use Rattle.keybytes.specs.declared.rid.Rid.{Rid}
use Rattle.heap_log.specs.declared.record.LogRec.{LogRec}
use Rattle.heap_log.specs.declared.record.LogRec.TheVariants.{Write, Undo, Commit, Switch}

-- the RID has a place, where so many slots of each page have one
abbrev pub HasPlace : Rid → List ℕ → Type 0
HasPlace rid places = rid.slot < get_or places rid.page 0

-- so have the RID that the record writes at, if it is a write, and its transaction, where so many of these have one
abbrev pub HasPlaceFor : LogRec → List ℕ → ℕ → Type 0
HasPlaceFor (Write txn rid row) places txns = HasPlace rid places × (txn < txns)
HasPlaceFor (Undo txn n) places txns = Unit {0}
HasPlaceFor (Commit txn) places txns = Unit {0}
HasPlaceFor (Switch verdicts) places txns = Unit {0}

-- each RID that had a place has one
abbrev pub KeepsPlaces : List ℕ → List ℕ → Type 0
KeepsPlaces old new = (rid : Rid) → HasPlace rid old → HasPlace rid new
