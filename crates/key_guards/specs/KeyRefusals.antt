-- Why a transaction may not give a RID a row, for the sake of a unique index.
use Rattle.std.specs.Prelude.{ℕ, ◌+◌, Bool, ◌&&◌, not, ◌==◌, if◌then◌else◌, List, length, Option, Some, None}
use Rattle.std.specs.List.{find}
use Rattle.std.specs.Option.{option_map}
use Rattle.std.specs.Str.{bytes_eq}
use Rattle.keybytes.specs.Faults.{first_cause}
use Rattle.keybytes.specs.Keys.{KeySpecValue, key_there}
use Rattle.keybytes.specs.declared.cell.Cell.{Cell}
use Rattle.keybytes.specs.declared.rid.Rid.{Rid}
use Rattle.keybytes.specs.declared.fault.Fault.{Fault}
use Rattle.keybytes.specs.declared.fault.Fault.TheVariants.{Duplicate, KeyHeld}
use Rattle.heap_log.specs.declared.record.LogRec.{LogRec}
use Rattle.heap_log.specs.Standing.{record_at, stands_of, last_below, row_at, standing_before, txn_of}
use Rattle.heap_table.specs.Holders.{committed}
use Rattle.heap_table.specs.TablePairs.{pairs_at_rest}
use Rattle.key_guards.specs.UniqueKeys.{has_key, is_its_key}

-- the RID of the first pair with the key, if there is one
abbrev pub rid_with : KeySpecValue → List LogRec → List ℕ → Option Rid
rid_with spec log key = option_map (λ pair. pair.rid) (find (λ pair. bytes_eq pair.key key) (pairs_at_rest spec log))

-- whether a standing write of that number, of a transaction that has not committed, took the key from its RID
abbrev pub took_key : KeySpecValue → List LogRec → List ℕ → ℕ → Bool
took_key spec log key n =
    (stands_of log (txn_of (record_at log n)) n && not (committed log (txn_of (record_at log n))))
    && (has_key spec key (row_at log (standing_before log n)) && not (has_key spec key (row_at log (Some n))))

-- the same, of another transaction than that one
abbrev pub took_from : KeySpecValue → List LogRec → ℕ → List ℕ → ℕ → Bool
took_from spec log txn key n = not (txn_of (record_at log n) == txn) && took_key spec log key n

-- the other transaction that guards the key, if there is one
abbrev pub other_guard : KeySpecValue → List LogRec → ℕ → List ℕ → Option ℕ
other_guard spec log txn key = option_map (λ n. txn_of (record_at log n)) (last_below (took_from spec log txn key) (length log + 1))

-- ready index number .. has the key, at a RID or under a guard
abbrev pub duplicate_refusal : ℕ → Option Rid → Option Fault
duplicate_refusal index None = None
duplicate_refusal index (Some rid) = Some (Duplicate index rid)

abbrev pub guarded_refusal : ℕ → Option ℕ → Option Fault
guarded_refusal index None = None
guarded_refusal index (Some txn) = Some (KeyHeld index txn)

-- why the transaction may not give a key to a RID that has it not
abbrev pub new_key_refusal : ℕ → KeySpecValue → List LogRec → ℕ → List ℕ → Option Fault
new_key_refusal index spec log txn key =
    first_cause (duplicate_refusal index (rid_with spec log key)) (guarded_refusal index (other_guard spec log txn key))

-- why the transaction may not put a new key in the place of an old one; no key, or the same one, may go there
abbrev pub next_key_refusal : ℕ → KeySpecValue → List LogRec → ℕ → Option (List ℕ) → Option (List ℕ) → Option Fault
next_key_refusal index spec log txn old None = None
next_key_refusal index spec log txn old (Some key) = if is_its_key key old then None else new_key_refusal index spec log txn key

-- why the transaction may not put the new row in the place of the old one, where none may stand; a row that keeps its
-- key, or has none in the index, may go there
abbrev pub key_refusal : ℕ → KeySpecValue → List LogRec → ℕ → Option (List Cell) → Option (List Cell) → Option Fault
key_refusal index spec log txn old new = next_key_refusal index spec log txn (key_there spec old) (key_there spec new)
