-- The ready indexes of a table may go to another thread.
use denote.Param.Send.{IsSend, sendable}
use Rattle.std.proofs.Crossing.{crosses}
use Rattle.keybytes.proofs.key_spec.KeySpec.TheSendSync as spec
use Rattle.btree.proofs.Crosses.{tree_send}
use Rattle.key_guards.proofs.guards.Guards.TheSendSync as guards
use Rattle.visibility.proofs.change.Change.TheSendSync as change
use Rattle.ready_indexes.specs.contracts.ready_index.ReadyIndex as ReadyIndex
use Rattle.ready_indexes.specs.contracts.ready_indexes.ReadyIndexes as ReadyIndexes

index_send : IsSend ReadyIndex.the_row
index_send = search (spec.the_send, tree_send, guards.the_send, change.the_send, sendable, crosses) depth 40

pub ready_send : IsSend ReadyIndexes.the_row
ready_send = search (index_send, sendable, crosses) depth 20
