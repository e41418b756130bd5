-- How the guards of keys change with each record.
use Rattle.std.specs.Prelude.{◌≡◌, ℕ, ◌+◌, ◌==◌, Bool, ◌&&◌, not, if◌then◌else◌, List, length}
use Rattle.keybytes.specs.Keys.{KeySpecValue}
use Rattle.heap_log.specs.declared.record.LogRec.{LogRec}
use Rattle.heap_log.specs.declared.record.LogRec.TheVariants.{Write, Undo, Commit, Switch}
use Rattle.heap_log.specs.Standing.{record_at, live_at, txn_of}
use Rattle.key_guards.specs.UniqueKeys.{has_key}
use Rattle.key_guards.specs.KeyRefusals.{took_key}

-- whether write n guards the key once the record is added
abbrev pub took_after : KeySpecValue → List LogRec → LogRec → List ℕ → ℕ → Bool
took_after spec log (Write txn rid row) key n =
    if n == length log + 1 then has_key spec key (live_at log rid) && not (has_key spec key row) else took_key spec log key n
took_after spec log (Undo txn undone) key n = not (undone == n) && took_key spec log key n
took_after spec log (Commit txn) key n = not (txn == txn_of (record_at log n)) && took_key spec log key n
took_after spec log (Switch verdicts) key n = took_key spec log key n

-- what a record does to the guards: a write guards the key that it takes, the undo of a write and the commit of its
-- transaction end that, and all else stays
pub record AddsToGuards (spec : KeySpecValue) (old : List LogRec) (added : LogRec) (new : List LogRec) : Type 0 where
  pub took : (key : List ℕ) (n : ℕ) → took_key spec new key n ≡ took_after spec old added key n
