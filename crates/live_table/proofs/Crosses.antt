-- A table may go to another thread.
use denote.RattleType.{RattleType}
use denote.Param.Send.{IsSend, sendable}
use Rattle.std.proofs.Crossing.{crosses}
use Rattle.ready_indexes.proofs.Crosses.{ready_send}
use Rattle.side_file.proofs.side_file.SideFile.TheSendSync as side
use Rattle.page_workers.proofs.page_putter.PagePutter.TheSendSync as putter
use Rattle.heap_table.proofs.heap.Heap.TheSendSync as heap
use Rattle.table_scan.proofs.table_scan.TableScan.TheSendSync as scan
use Rattle.page_workers.specs.declared.table_rings.TableRings.{Ghosts}
use Rattle.live_table.specs.contracts.live.Live as Live

pub live_send : (T : RattleType) (g : Ghosts T.Denot) → IsSend (Live.the_row T g)
live_send T g = search (heap.the_send, ready_send, scan.the_send, putter.the_send, side.the_send, sendable, crosses) depth 20
