-- The limits of a table and of a build, and what a switch refused.
use Rattle.std.specs.Prelude.{ℕ, nat_le, Bool, true, false, ◌&&◌, Option, Some, if◌then◌else◌}
use Rattle.keybytes.specs.Schemas.{columns_refusal}
use Rattle.keybytes.specs.declared.fault.Fault.{Fault}
use Rattle.keybytes.specs.declared.fault.Fault.TheVariants.{BadCount}
use Rattle.heap_log.specs.declared.outcome.Outcome.{Outcome}
use Rattle.heap_log.specs.declared.outcome.Outcome.TheVariants.{Ready, Shared}
use Rattle.heap_table.specs.Limits.{slots_most}
use Rattle.build_events.specs.BuildSteps.{indexes_most, workers_most}
use Rattle.script.specs.declared.table.Table.{Table}

-- 1 to 16 workers, 1 to 8 indexes, and a quota of at most 1,024 pages
abbrev pub is_in_limits : ℕ → ℕ → ℕ → Bool
is_in_limits workers indexes quota =
    (nat_le 1 workers && nat_le workers workers_most) && (nat_le 1 indexes && nat_le indexes indexes_most) && nat_le quota 1024

-- the verdict refuses its index
abbrev pub is_refusal : Outcome → Bool
is_refusal (Ready number) = false
is_refusal (Shared key first second) = true

-- why a script's table is refused: its slot limit is looked at before its columns
abbrev pub table_refusal : Table → Option Fault
table_refusal table =
    if nat_le 1 table.slot_limit && nat_le table.slot_limit slots_most then columns_refusal table.kinds.items else Some BadCount
