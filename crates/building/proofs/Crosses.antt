-- The turn of an index may go to another thread.
use denote.Param.Send.{IsSend, sendable}
use Rattle.std.proofs.Crossing.{crosses}
use Rattle.keybytes.proofs.fault.Fault.TheSendSync as fault
use Rattle.btree.proofs.Crosses.{tree_send}
use Rattle.side_file.proofs.entry_end.EntryEnd.TheSendSync as entry_end
use Rattle.building.specs.contracts.batch_turns.IndexTurn as IndexTurn

pub turn_send : IsSend IndexTurn.the_row
turn_send = search (fault.the_send, tree_send, entry_end.the_send, sendable, crosses) depth 60
