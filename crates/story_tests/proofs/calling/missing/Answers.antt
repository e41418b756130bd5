use denote.Param.Send.{sendable}
use Rattle.keybytes.proofs.row.Row.TheSendSync as row
use Rattle.crew.proofs.Crosses.{session_send}
use Rattle.story_tests.proofs.calling.missing.Goals as goal

pub join-a-requires-send-F : goal.join-a-requires-send-F
join-a-requires-send-F g c = search (session_send, row.the_send, sendable) depth 20
