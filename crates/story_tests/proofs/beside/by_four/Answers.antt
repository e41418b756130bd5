use denote.Param.Send.{sendable}
use Rattle.crew.proofs.Crosses.{table_sync}
use Rattle.story_tests.proofs.watch.Watch.TheSendSync as watch
use Rattle.story_tests.proofs.beside.by_four.Goals as goal

pub join-one-requires-send-F : goal.join-one-requires-send-F
join-one-requires-send-F g c = search (table_sync, watch.the_sync, sendable) depth 20
