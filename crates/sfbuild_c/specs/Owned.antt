-- What the pointer of a session owns: the box of a table, or nothing.
use base.Fml.{Fml, ftrue}
use denote.RawPtr.{Ptr}
use Rattle.std.specs.Box.Ownership.{box_owns}
use Rattle.std.specs.Prelude.{Option, Some, None}
use Rattle.std.specs.declared.alloc.Global.{Global}
use Rattle.std.specs.contracts.impls.GlobalAllocator.TheImpl.{ghosts}
use Rattle.kept_table.specs.KeptTables.{KeptValue}
use Rattle.kept_table.specs.contracts.kept.Kept.{the_row}

unfoldable pub table_owns : Global → Ptr → Option KeptValue → Fml
table_owns alloc at None = ftrue
table_owns alloc at (Some table) = box_owns (ghosts.dealloc_token alloc) the_row at table
