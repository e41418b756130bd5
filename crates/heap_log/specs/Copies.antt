-- Which copies take no memory, and so can't be refused.
use Rattle.std.specs.Prelude.{◌≡◌, ◌≤◌, None, [], length}
use Rattle.heap_log.specs.declared.outcome.Outcome.{Outcome}
use Rattle.heap_log.specs.declared.outcome.Outcome.TheVariants.{Ready, Shared}
use Rattle.heap_log.specs.declared.record.LogRec.{LogRec}
use Rattle.heap_log.specs.declared.record.LogRec.TheVariants.{Write, Undo, Commit, Switch}

-- the verdict has no key, or one that is short enough to be kept in place
abbrev pub IsInline : Outcome → Type 0
IsInline (Ready number) = Unit {0}
IsInline (Shared key first second) = length key ≤ 24

-- the record has neither a row nor verdicts
abbrev pub IsBare : LogRec → Type 0
IsBare (Write txn rid row) = row ≡ None
IsBare (Undo txn undone) = Unit {0}
IsBare (Commit txn) = Unit {0}
IsBare (Switch verdicts) = verdicts ≡ []
