-- The guards by transaction, which follow the log.
use Rattle.std.specs.Prelude.{◌≡◌, ◌<◌, ◌≤◌, ◌==◌, ℕ, Bool, ◌&&◌, not, if◌then◌else◌, get_or, List, [], ◌∷◌, length, Option, Some, None}
use Rattle.std.specs.List.{list_any, find, All}
use Rattle.std.specs.Option.{option_map}
use Rattle.std.specs.Str.{bytes_eq}
use Rattle.keybytes.specs.Keys.{KeySpecValue, key_there}
use Rattle.keybytes.specs.declared.cell.Cell.{Cell}
use Rattle.heap_log.specs.declared.record.LogRec.{LogRec}
use Rattle.heap_log.specs.Standing.{record_at, txn_of}
use Rattle.key_guards.specs.declared.taken.Taken.{Taken}
use Rattle.key_guards.specs.UniqueKeys.{is_its_key}
use Rattle.key_guards.specs.KeyRefusals.{took_key}
use Rattle.key_guards.specs.TxnGuards.{TxnValue, has_taken, without_top}

-- whether that write took that key, among those of one transaction, and of all
abbrev pub is_taken : List ℕ → ℕ → List Taken → Bool
is_taken key n taken = list_any (λ t. (t.number == n) && bytes_eq t.key key) taken

abbrev pub is_listed : List TxnValue → List ℕ → ℕ → Bool
is_listed txns key n = list_any (λ t. is_taken key n t.taken) txns

-- the transaction other than that one that took the key, if there is one
abbrev pub is_other : ℕ → List ℕ → TxnValue → Bool
is_other txn key t = not (t.txn == txn) && has_taken key t.taken

abbrev pub other_in : List TxnValue → ℕ → List ℕ → Option ℕ
other_in txns txn key = option_map (λ t. t.txn) (find (is_other txn key) txns)

-- each write comes after the one before it
abbrev pub Ascends : List Taken → Type 0
Ascends [] = Unit {0}
Ascends (t ∷ []) = Unit {0}
Ascends (t ∷ u ∷ more) = (t.number < u.number) × Ascends (u ∷ more)

-- it is a write of the log, of that transaction
pub record IsTakenIn (log : List LogRec) (txn : ℕ) (t : Taken) : Type 0 where
  pub within : t.number ≤ length log
  pub by : txn_of (record_at log t.number) ≡ txn

-- one transaction's follow the log
pub record AreTakenIn (log : List LogRec) (t : TxnValue) : Type 0 where
  pub each : All (IsTakenIn log t.txn) t.taken
  pub ascend : Ascends t.taken

-- these are the guards, all of them
pub record AreGuards (spec : KeySpecValue) (log : List LogRec) (txns : List TxnValue) : Type 0 where
  pub each : All (AreTakenIn log) txns
  pub listed : (key : List ℕ) (n : ℕ) → is_listed txns key n ≡ took_key spec log key n

-- each has the keys of the same transaction, without the last one where the write of that number took it
pub record IsUndone (number : ℕ) (old new : TxnValue) : Type 0 where
  pub txn : new.txn ≡ old.txn
  pub taken : new.taken ≡ without_top number old.taken

pub record AreUndone (number : ℕ) (old new : List TxnValue) : Type 0 where
  pub count : length new ≡ length old
  pub each : (at : ℕ) (d : TxnValue) → at < length old → IsUndone number (get_or old at d) (get_or new at d)

-- the old key, where there is one and the new one is another or none
abbrev pub key_left : Option (List ℕ) → Option (List ℕ) → Option (List ℕ)
key_left None new = None
key_left (Some old) new = if is_its_key old new then None else Some old

-- the key that a row takes from the one before it: the key of that one, if the index took it, and this one has another or none
abbrev pub key_taken : KeySpecValue → Option (List Cell) → Option (List Cell) → Option (List ℕ)
key_taken spec before row = key_left (key_there spec before) (key_there spec row)
