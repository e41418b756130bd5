-- The box of a table may go to another thread: so may the table, and any thread may give its memory back.
use mir.Raw.{raw}
use base.Shift.{Keyless}
use denote.Memory.{lone}
use denote.RawPtr.{Ptr}
use denote.Builtin.{RawPtr}
use denote.Param.Send.{IsSend, owning_send, sendable}
use Rattle.std.specs.Prelude.{Option, Some, None}
use Rattle.std.specs.declared.alloc.Global.{Global}
use Rattle.std.proofs.Crossing.{frees}
use Rattle.std.proofs.alloc.Global.TheSendSync as heap
use Rattle.std_alloc.proofs.SendSync.{lies}
use Rattle.kept_table.specs.KeptTables.{KeptValue}
use Rattle.kept_table.specs.contracts.kept.Kept as Kept
use Rattle.kept_table.proofs.Crosses.{kept_send}
use Rattle.sfbuild_c.specs.Owned.{table_owns}
use Rattle.sfbuild_c.specs.contracts.held.Held.{the_row, the_type}

pointer_send : IsSend RawPtr
pointer_send = search sendable

table_keyless : (alloc : Global) (at : Ptr) (table : Option KeptValue) → Keyless (table_owns alloc at table)
unfolding table_owns
table_keyless alloc at None = tt
table_keyless alloc at (Some table) = (lies Kept.the_row kept_send at table, frees.frees alloc (raw (lone Kept.the_row.mir)) at)

pub send : IsSend the_row
send = owning_send the_type (pointer_send, (heap.the_field_send, tt)) (λ held. table_keyless held.alloc held.at held.table) (λ k d w. tt)
